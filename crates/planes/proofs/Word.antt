-- A slice as arrays of four bytes, and the bytes of the number that such an array is. Assumes nothing.
use Rattle.std.proofs.Common.{◌≡◌, ◌<◌, ◌+◌, ◌*◌, ◌/◌, ◌%◌, ◌^◌, ℕ, zero, suc, List, [], ◌∷◌, length, get_or, take, drop, ap, ◌∙◌, refl, drop-drop, length-drop, length-take-le, lit<, arith, div-one}
use Rattle.std.specs.Int.{from_le_bytes, w32}
use Rattle.std.specs.Simd.{first_chunks}
use Rattle.std.proofs.lemmas.List.{get_or-take, get_or-drop}
use Rattle.std.proofs.lemmas.Nat.{le_bytes_4}

chunk_at : (s : List ℕ) (m k : ℕ) (d : List ℕ) → k < m → get_or (first_chunks 4 m s) k d ≡ take 4 (drop (4 * k) s)
chunk_at s zero k d h = absurd (omega arith)
chunk_at s (suc m) zero d h = refl
chunk_at s (suc m) (suc k) d h =
    let e : 4 + 4 * k ≡ 4 * suc k = omega arith in
    chunk_at (drop 4 s) m k d (omega arith) ∙ ap (take 4) (drop-drop (4 * k) 4 s ∙ ap (λ (t : ℕ). drop t s) e)

byte_of_word : (bs : List ℕ) (n p : ℕ) → length bs ≡ 4 → ((i : ℕ) → get_or bs i 0 < 256) → n ≡ from_le_bytes w32 bs → p < 4 → n / 2 ^ (8 * p) % 256 ≡ get_or bs p 0
byte_of_word bs n zero l b e h = ap (λ (x : ℕ). x % 256) (div-one n) ∙ ap (λ (t : List ℕ). get_or t 0 0) (le_bytes_4 bs n l b e)
byte_of_word bs n (suc zero) l b e h = ap (λ (t : List ℕ). get_or t 1 0) (le_bytes_4 bs n l b e)
byte_of_word bs n (suc (suc zero)) l b e h = ap (λ (t : List ℕ). get_or t 2 0) (le_bytes_4 bs n l b e)
byte_of_word bs n (suc (suc (suc zero))) l b e h = ap (λ (t : List ℕ). get_or t 3 0) (le_bytes_4 bs n l b e)
byte_of_word bs n (suc (suc (suc (suc p)))) l b e h = absurd (omega arith)

bytes_taken : (n : ℕ) (s : List ℕ) → ((i : ℕ) → get_or s i 0 < 256) → (i : ℕ) → get_or (take n s) i 0 < 256
bytes_taken zero s b i = lit< tt
bytes_taken (suc n) [] b i = lit< tt
bytes_taken (suc n) (x ∷ s) b zero = b 0
bytes_taken (suc n) (x ∷ s) b (suc i) = bytes_taken n s (λ j. b (suc j)) i

pub byte_of_chunk : (s : List ℕ) (m k p n : ℕ) → ((i : ℕ) → get_or s i 0 < 256) → length s ≡ 4 * m → k < m → p < 4 → n ≡ from_le_bytes w32 (get_or (first_chunks 4 m s) k []) → n / 2 ^ (8 * p) % 256 ≡ get_or s (4 * k + p) 0
byte_of_chunk s m k p n b l h q e =
    let bs : List ℕ = take 4 (drop (4 * k) s) in
    let four : length bs ≡ 4 = length-take-le 4 (drop (4 * k) s) (omega (arith, length-drop (4 * k) s)) in
    let bytes : (i : ℕ) → get_or bs i 0 < 256 = bytes_taken 4 (drop (4 * k) s) (λ i. rw (get_or-drop (4 * k) s i 0) (b (4 * k + i))) in
    byte_of_word bs n p four bytes (e ∙ ap (from_le_bytes w32) (chunk_at s m k [] h)) q ∙ get_or-take 4 (drop (4 * k) s) p 0 q ∙ get_or-drop (4 * k) s p 0
