-- A list that is written place by place: one place more, and the whole. Assumes nothing.
use Rattle.std.proofs.Common.{◌≡◌, ◌<◌, ◌+◌, ℕ, List, length, get_or, set, length-set, map, sym, ◌∙◌, arith}
use Rattle.std.specs.List.{range_with_len}
use Rattle.std.proofs.lemmas.List.{ext_get_or, get_or-set_same, get_or-set_other}
use Rattle.std.proofs.lemmas.List.FromFn.{length-map-range_with_len, get_or-map-range_with_len}
use borrow.Author.Count.{below_more}

pub filled_more : (f : ℕ → ℕ) (xs : List ℕ) (k v : ℕ) → k < length xs → v ≡ f k → ((i : ℕ) → i < k → get_or xs i 0 ≡ f i) → (i : ℕ) → i < k + 1 → get_or (set xs k v) i 0 ≡ f i
filled_more f xs k v h e before = below_more _ _ (λ i q. get_or-set_other xs k i v 0 (λ r. omega arith) ∙ before i q) (get_or-set_same xs k v 0 h ∙ e)

pub filled : (f : ℕ → ℕ) (n : ℕ) (xs : List ℕ) → length xs ≡ n → ((i : ℕ) → i < n → get_or xs i 0 ≡ f i) → xs ≡ map f (range_with_len 0 n)
filled f n xs l h =
    ext_get_or 0 xs (map f (range_with_len 0 n)) (l ∙ sym (length-map-range_with_len f 0 n))
    (λ i q. let r : i < n = omega arith in h i r ∙ sym (get_or-map-range_with_len f 0 n i i 0 r (omega arith)))

pub filled_four : (f : ℕ → ℕ) (xs : List ℕ) (k a b c d : ℕ) → k + 3 < length xs → a ≡ f k → b ≡ f (k + 1) → c ≡ f (k + 2) → d ≡ f (k + 3) → ((i : ℕ) → i < k → get_or xs i 0 ≡ f i) → (i : ℕ) → i < k + 4 → get_or (set (set (set (set xs k a) (k + 1) b) (k + 2) c) (k + 3) d) i 0 ≡ f i
filled_four f xs k a b c d h ea eb ec ed before i q =
    let one : List ℕ = set xs k a in
    let two : List ℕ = set one (k + 1) b in
    let three : List ℕ = set two (k + 2) c in
    let l1 : length one ≡ length xs = length-set xs k a in
    let l2 : length two ≡ length one = length-set one (k + 1) b in
    let l3 : length three ≡ length two = length-set two (k + 2) c in
    let m1 : (i : ℕ) → i < k + 1 → get_or one i 0 ≡ f i = filled_more f xs k a (omega arith) ea before in
    let m2 : (i : ℕ) → i < k + 2 → get_or two i 0 ≡ f i = λ i q. filled_more f one (k + 1) b (omega arith) eb m1 i (omega arith) in
    let m3 : (i : ℕ) → i < k + 3 → get_or three i 0 ≡ f i = λ i q. filled_more f two (k + 2) c (omega arith) ec m2 i (omega arith) in
    filled_more f three (k + 3) d (omega arith) ed m3 i (omega arith)
