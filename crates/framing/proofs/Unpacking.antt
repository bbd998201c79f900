-- PCM that is taken out of its records, one after the other. Assumes nothing.
use Prim.Native.Nat.{ℕ, zero, suc, ◌+◌, ◌-◌, ◌*◌, ◌≤◌, ◌<◌, min}
use mathlib.Core.Path.{◌≡◌, refl, sym, ap, subst, ◌∙◌}
use mathlib.Core.Bool.{true, false}
use mathlib.Core.List.{List, [], ◌++◌, append-nil}
use mathlib.Core.Logic.{⊎_elim}
use Rattle.std.specs.Prelude.{Result, Ok, Err}
use native.Mathlib.Nat.{eq-or-lt_of_le}
use native.Mathlib.Numerals.{add-one}
use native.Mathlib.Omega.{arith}
use lib.ListN.{length, take, drop, length-drop, drop_of_length-le}
use lib.Seq.{take_at, take_all, length-take-le, drop-length, take-append-add}
use borrow.Rule.Slice.PartMut.{put_mid, mid_of, post_of, mid_len, Post-is}
use Rattle.framing.specs.Framing.{is_pcm, record_count, record_bytes, record_at, in_use, are_pcm, held_in}
use Rattle.framing.specs.PcmTaken.{Taken, Unpacked}

-- ---- one record

-- a record that is not as laid out leaves the rest as it was
pub none_taken : {A E : Type 0} (rec rest : List ℕ) (got : Result A E) {e : E} {n : ℕ} → got ≡ Err e → n ≡ min (length rest) 36 → is_pcm n rec ≡ false → Taken rec rest got rest
none_taken {A} {E} rec rest got g h p = subst (λ (b : Result A E). Taken rec rest b rest) (sym g) (ap (λ (i : ℕ). is_pcm i rec) (sym h) ∙ p, refl)

-- one that is has its bytes put at the front
pub nine_taken : {A E : Type 0} (rec rest : List ℕ) (got : Result A E) {v : A} {n : ℕ} {now : List ℕ} → got ≡ Ok v → n ≡ min (length rest) 36 → length rec ≡ 40
    → is_pcm n rec ≡ true → now ≡ take (4 + n - 4) (drop 4 rec) ++ drop (length (take (4 + n - 4) (drop 4 rec))) rest → Taken rec rest got now
nine_taken {A} {E} rec rest got {v} {n} {now} g e h p q =
    let m : 4 + n - 4 ≡ n = omega arith in
    let l : length (take n (drop 4 rec)) ≡ n = length-take-le n (drop 4 rec) (omega (arith, length-drop 4 rec)) in
    let w = subst (λ (i : ℕ). (is_pcm i rec ≡ true) × (now ≡ take i (drop 4 rec) ++ drop i rest)) e (p, q ∙ rw (m, l)) in
    subst (λ (b : Result A E). Taken rec rest b now) (sym g) w

-- ---- the records in a row

-- what is in use of a record is all that the 36 bytes at the front hold of it
front : (u l : ℕ) (y rest : List ℕ) → u ≡ min l 36 → length y ≡ u → length rest ≡ l → take 36 (y ++ drop u rest) ≡ y
front u l y rest e h r =
    ⊎_elim
    (λ s. take_at y (drop u rest) 36 (h ∙ s))
    (λ s. let d : drop u rest ≡ [] = drop_of_length-le rest {i = u} (omega arith) in rw (d, append-nil) (take_all 36 y (omega arith)))
    (eq-or-lt_of_le (let few : u ≤ 36 = omega arith in few))

module _ (n : ℕ) (s : List ℕ) where
  pub none_held : (pcm : List ℕ) → take (36 * 0) pcm ≡ held_in n s 0
  unfolding held_in
  none_held pcm = refl

  pub none_are : are_pcm n s 0 ≡ true
  unfolding are_pcm
  none_are = refl

  more_are : (k : ℕ) → are_pcm n s k ≡ true → is_pcm (in_use n k) (record_at s k) ≡ true → are_pcm n s (suc k) ≡ true
  unfolding are_pcm
  more_are k p q = rw (p, q)

  ends_are : (k : ℕ) → is_pcm (in_use n k) (record_at s k) ≡ false → are_pcm n s k ≡ true → are_pcm n s (suc k) ≡ false
  unfolding are_pcm
  ends_are k p q = rw (q, p)

  stays : (k d : ℕ) → are_pcm n s k ≡ false → are_pcm n s (k + d) ≡ false
  unfolding are_pcm
  stays k zero p = let e : k + 0 ≡ k = omega arith in rw e p
  stays k (suc d) p = let e : k + suc d ≡ suc (k + d) = omega arith in rw (e, stays k d p)

  more_held : (k : ℕ) → held_in n s k ++ take (in_use n k) (drop 4 (record_at s k)) ≡ held_in n s (suc k)
  unfolding held_in
  more_held k = refl

  module _ (pcm : List ℕ) (k : ℕ) (whole : length pcm ≡ n) (full : length s ≡ record_bytes n) (within : 36 * k < n) where
    abbrev rest : List ℕ
    rest = mid_of (36 * k) (length pcm - 36 * k) pcm

    left : length rest ≡ n - 36 * k
    left = mid_len (36 * k) (length pcm) pcm (omega arith) ∙ (omega arith)

    used : min (length rest) 36 ≡ in_use n k
    used = ap (λ (i : ℕ). min i 36) left

    -- what stands in the list where the record's part is put back
    placed : (y : List ℕ) → length y ≡ in_use n k → take (36 * (k + 1)) (put_mid (36 * k) (length pcm - 36 * k) pcm (y ++ drop (in_use n k) rest)) ≡ take (36 * k) pcm ++ y
    placed y h =
        let a = 36 * k in
        let x = y ++ drop (in_use n k) rest in
        let none : post_of a (length pcm - a) pcm ≡ [] = Post-is a (length pcm) pcm (omega arith) ∙ drop-length pcm in
        let m : length (take a pcm) ≡ a = length-take-le a pcm (omega arith) in
        let e : 36 * (k + 1) ≡ length (take a pcm) + 36 = omega arith in
        rw (none, append-nil, e) (take-append-add (take a pcm) x 36 ∙ ap (λ (z : List ℕ). take a pcm ++ z) (front (in_use n k) (n - 36 * k) y rest refl h left))

    long : length (record_at s k) ≡ 40
    long = length-take-le 40 (drop (40 * k) s) (omega (arith, length-drop (40 * k) s))

    -- the record's part of the list, as the code cuts it
    cut : {A E : Type 0} (got : Result A E) (now : List ℕ) → Taken (take (40 * k + 40 - 40 * k) (drop (40 * k) s)) rest got now → Taken (record_at s k) rest got now
    cut got now t = let e : 40 * k + 40 - 40 * k ≡ 40 = omega arith in subst (λ (i : ℕ). Taken (take i (drop (40 * k) s)) rest got now) e t

    pub record_more : {A E : Type 0} (got : Result A E) (now : List ℕ) {v : A} → got ≡ Ok v → Taken (take (40 * k + 40 - 40 * k) (drop (40 * k) s)) rest got now
        → are_pcm n s k ≡ true → take (36 * k) pcm ≡ held_in n s k
        → (are_pcm n s (k + 1) ≡ true) × (take (36 * (k + 1)) (put_mid (36 * k) (length pcm - 36 * k) pcm now) ≡ held_in n s (k + 1))
    record_more got now g t are held =
        let w = subst (λ b. Taken (record_at s k) rest b now) g (cut got now t) in
        let v = subst (λ (i : ℕ). (is_pcm i (record_at s k) ≡ true) × (now ≡ take i (drop 4 (record_at s k)) ++ drop i rest)) used w in
        let y = take (in_use n k) (drop 4 (record_at s k)) in
        let h : length y ≡ in_use n k = length-take-le (in_use n k) (drop 4 (record_at s k)) (omega (arith, long, length-drop 4 (record_at s k))) in (
          rw add-one (more_are k are v.0),
          ap (λ (z : List ℕ). take (36 * (k + 1)) (put_mid (36 * k) (length pcm - 36 * k) pcm z)) v.1
              ∙ placed y h ∙ ap (λ (z : List ℕ). z ++ y) held ∙ more_held k ∙ ap (held_in n s) (sym (add-one k)),
        )

    pub record_bad : {A E : Type 0} (got : Result A E) (now : List ℕ) {e : E} → got ≡ Err e → Taken (take (40 * k + 40 - 40 * k) (drop (40 * k) s)) rest got now
        → are_pcm n s k ≡ true → are_pcm n s (record_count n) ≡ false
    record_bad got now g t are =
        let w = subst (λ b. Taken (record_at s k) rest b now) g (cut got now t) in
        let q : is_pcm (in_use n k) (record_at s k) ≡ false = ap (λ (i : ℕ). is_pcm i (record_at s k)) (sym used) ∙ w.0 in
        let d = record_count n - suc k in
        let e : suc k + d ≡ record_count n = omega arith in
        ap (are_pcm n s) (sym e) ∙ stays (suc k) d (ends_are k q are)

  -- all of the records are taken
  pub records_done : {A E : Type 0} (pcm : List ℕ) (k : ℕ) (got : Result A E) {v : A} → got ≡ Ok v → length pcm ≡ n → n ≤ 36 * k → 36 * k ≤ n + 35 → are_pcm n s k ≡ true
      → take (36 * k) pcm ≡ held_in n s k → Unpacked s n got pcm
  records_done {A} {E} pcm k got g whole past few are held =
      let e : k ≡ record_count n = omega arith in
      let w : (are_pcm n s k ≡ true) × (pcm ≡ held_in n s k) = (are, sym (take_all (36 * k) pcm (omega arith)) ∙ held) in
      subst (λ (b : Result A E). Unpacked s n b pcm) (sym g) (subst (λ (i : ℕ). (are_pcm n s i ≡ true) × (pcm ≡ held_in n s i)) e w)
