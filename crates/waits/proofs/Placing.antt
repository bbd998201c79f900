-- Offsets put into a layout, one after the other. Assumes nothing.
use Rattle.std.proofs.Common.{◌≡◌, ℕ, ◌+◌, ◌<◌, ◌≤◌, Bool, true, false, eqb, List, length, get_or, refl, sym, ap, ◌∙◌, ⊎_elim, eq-or-lt_of_le, eqb-true, arith}
use borrow.Author.Tests.{eqb-false}
use lib.ListN.{set, length-set}
use lib.Seq.{get_or-set_same, get_or-set_other}
use Rattle.clock.specs.declared.FrameOffset.{FrameOffset}
use Rattle.records.specs.LayoutAnswers.{no_sent, sent_place, offset_at}
use Rattle.records.specs.declared.sent.Layout.{Layout}
use Rattle.records.specs.declared.sent.Sent.{Sent}

-- s has the places of l, the offsets f below i, and those of l from i on
pub record Placing (l : Layout) (f : ℕ → ℕ) (s : List Sent) (i : ℕ) : Type 0 where
  pub room : length s ≡ 16
  pub places : (k : ℕ) → (get_or s k no_sent).place ≡ sent_place l k
  pub passed : (k : ℕ) → k < i → (get_or s k no_sent).offset.0 ≡ f k
  pub ahead : (k : ℕ) → i ≤ k → (get_or s k no_sent).offset.0 ≡ offset_at l k

module _ (l : Layout) (f : ℕ → ℕ) (s : List Sent) (i : ℕ) (x : FrameOffset) (h : i < 16) (p : Placing l f s i) (is : x.0 ≡ f i) where
  abbrev one : Sent
  one = record { place = sent_place l i; offset = x }

  here : get_or (set s i one) i no_sent ≡ one
  here = get_or-set_same s i one no_sent (let e = p.room in omega (arith, e))

  there : (k : ℕ) → (k ≡ i → ⊥) → get_or (set s i one) k no_sent ≡ get_or s k no_sent
  there k g = get_or-set_other s i k one no_sent g

  place_at : (k : ℕ) → (get_or (set s i one) k no_sent).place ≡ sent_place l k
  place_at k =
      by (eqb k i) refl
    where
      by : (b : Bool) → eqb k i ≡ b → (get_or (set s i one) k no_sent).place ≡ sent_place l k
      by true q =
          let e = eqb-true k i q in
          ap (λ (j : ℕ). (get_or (set s i one) j no_sent).place) e ∙ ap (λ (y : Sent). y.place) here ∙ ap (sent_place l) (sym e)
      by false q = ap (λ (y : Sent). y.place) (there k (eqb-false k i q)) ∙ p.places k

  passed_at : (k : ℕ) → k < i + 1 → (get_or (set s i one) k no_sent).offset.0 ≡ f k
  passed_at k b =
      ⊎_elim
      (λ (e : k ≡ i). ap (λ (j : ℕ). (get_or (set s i one) j no_sent).offset.0) e ∙ ap (λ (y : Sent). y.offset.0) here ∙ is ∙ ap f (sym e))
      (λ (q : k < i). ap (λ (y : Sent). y.offset.0) (there k (λ e. omega (arith, e, q))) ∙ p.passed k q)
      (eq-or-lt_of_le (let c : k ≤ i = omega (arith, b) in c))

  pub placed_more : Placing l f (set s i one) (i + 1)
  placed_more =
      record {
        room = length-set s i one ∙ p.room;
        places = place_at;
        passed = passed_at;
        ahead = λ k b. ap (λ (y : Sent). y.offset.0) (there k (λ e. omega (arith, e, b))) ∙ p.ahead k (omega (arith, b));
      }
