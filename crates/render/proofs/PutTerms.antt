-- A source's terms put one by one: the speakers that are marked from channel c on, and the corners from corner j on. Assumes nothing.
use mathlib.Core.Path.{◌≡◌, sym, ap, subst, ◌∙◌}
use mathlib.Core.Bool.{Bool, true, false}
use mathlib.Core.List.{List, [], ◌∷◌}
use Prim.Native.Nat.{ℕ, suc, ◌+◌, ◌-◌, ◌<◌, ◌≤◌}
use native.Mathlib.Omega.{arith}
use native.Mathlib.Numerals.{add-one}
use lib.ListN.{length, get_or, drop, drop_of_length-le}
use lib.Seq.{drop-cons}
use lib.Ieee.{Float, nan}
use Rattle.panning.specs.Terms.{Term, term, paired, spread}
use Rattle.render.specs.declared.lists.Fed.{Fed}
use Rattle.render.specs.declared.lists.Lists.{Lists}
use Rattle.render.specs.MixedRows.{speakers_marked}
use Rattle.render.specs.Listed.{Grown}
use Rattle.render.proofs.Marks.{sounds_on, marked_from, all_marked}
use Rattle.render.proofs.FedTerms.{fed_on, term_then, terms_none}
use Rattle.render.proofs.ToPut.{ToPut, to_put_then, to_put_none}

-- the speakers from channel c on
abbrev pub speakers_from : List Bool → ℕ → Float → List Term
speakers_from ms c g = spread (marked_from ms c (12 - c)) g

-- the corners from corner j on
abbrev pub corners_from : List ℕ → List Float → ℕ → List Term
corners_from ks gs j = paired (drop j ks) (drop j gs)

-- channel c has a marked speaker, and it has none
speakers_on : (ms : List Bool) (c : ℕ) (g : Float) → c < 12 → sounds_on ms c ≡ true → speakers_from ms c g ≡ term c g ∷ speakers_from ms (c + 1) g
unfolding marked_from
speakers_on ms c g l b = let e : 12 - c ≡ suc (12 - (c + 1)) = omega arith in rw (e, add-one c, b)

speakers_off : (ms : List Bool) (c : ℕ) (g : Float) → c < 12 → sounds_on ms c ≡ false → speakers_from ms c g ≡ speakers_from ms (c + 1) g
unfolding marked_from
speakers_off ms c g l b = let e : 12 - c ≡ suc (12 - (c + 1)) = omega arith in rw (e, add-one c, b)

-- corner j, and those behind it
corners_on : (ks : List ℕ) (gs : List Float) (j : ℕ) → j < length ks → j < length gs → corners_from ks gs j ≡ term (get_or ks j 0) (get_or gs j nan) ∷ corners_from ks gs (j + 1)
unfolding paired
corners_on ks gs j l m = rw (drop-cons ks j 0 l, drop-cons gs j nan m, add-one j)

-- what input i feeds
module _ (i : ℕ) where
  pub all_speakers : (ms : List Bool) (g : Float) (k : ℕ) → fed_on i (speakers_from ms 0 g) k ≡ fed_on i (spread (speakers_marked ms) g) k
  all_speakers ms g k = ap (λ (ks : List ℕ). fed_on i (spread ks g) k) (all_marked ms)

  module _ {whole : ℕ → List Fed} {a b d : Lists} where
    -- the first term that is left
    put_first : (t : Term) {ts us : List Term} → ts ≡ t ∷ us → Grown (λ k. fed_on i (t ∷ []) k) b d → ToPut (λ k. fed_on i ts k) whole a b → ToPut (λ k. fed_on i us k) whole a d
    put_first t {ts} {us} e p = to_put_then (λ k. sym (ap (λ (vs : List Term). fed_on i vs k) e ∙ term_then i t us k)) p

    -- one channel more: its speaker is put, or it has none
    pub put_speaker : {m : Lists} (ms : List Bool) (c : ℕ) (g : Float) → c < 12 → sounds_on ms c ≡ true → d ≡ m → Grown (λ k. fed_on i (term c g ∷ []) k) b m
        → ToPut (λ k. fed_on i (speakers_from ms c g) k) whole a b → ToPut (λ k. fed_on i (speakers_from ms (c + 1) g) k) whole a d
    put_speaker ms c g l e q p = put_first (term c g) (speakers_on ms c g l e) (subst (Grown (λ k. fed_on i (term c g ∷ []) k) b) (sym q) p)

    pub skip_speaker : (ms : List Bool) (c : ℕ) (g : Float) → c < 12 → sounds_on ms c ≡ false → d ≡ b
        → ToPut (λ k. fed_on i (speakers_from ms c g) k) whole a b → ToPut (λ k. fed_on i (speakers_from ms (c + 1) g) k) whole a d
    skip_speaker ms c g l e p t =
        subst (ToPut (λ k. fed_on i (speakers_from ms (c + 1) g) k) whole a) (sym p)
        (subst (λ (ts : List Term). ToPut (λ k. fed_on i ts k) whole a b) (speakers_off ms c g l e) t)

    -- one corner more
    pub put_corner : (ks : List ℕ) (gs : List Float) (j : ℕ) → j < length ks → j < length gs → Grown (λ k. fed_on i (term (get_or ks j 0) (get_or gs j nan) ∷ []) k) b d
        → ToPut (λ k. fed_on i (corners_from ks gs j) k) whole a b → ToPut (λ k. fed_on i (corners_from ks gs (j + 1)) k) whole a d
    put_corner ks gs j l m = put_first (term (get_or ks j 0) (get_or gs j nan)) (corners_on ks gs j l m)

  module _ {whole : ℕ → List Fed} {a b : Lists} where
    -- all channels, and all corners
    pub speakers_done : (ms : List Bool) (c : ℕ) (g : Float) → 12 ≤ c → ToPut (λ k. fed_on i (speakers_from ms c g) k) whole a b → Grown whole a b
    unfolding marked_from
    speakers_done ms c g l = to_put_none (λ k. let e : 12 - c ≡ 0 = omega arith in rw e (terms_none i k))

    pub corners_done : (ks : List ℕ) (gs : List Float) (j : ℕ) → length ks ≤ j → ToPut (λ k. fed_on i (corners_from ks gs j) k) whole a b → Grown whole a b
    unfolding paired
    corners_done ks gs j l = to_put_none (λ k. rw (drop_of_length-le ks l) (terms_none i k))
