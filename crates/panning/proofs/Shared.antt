-- The shares of the chosen speakers are those of the rules, and so lie from 0 to 1; and the chosen speakers are channels. Assumes nothing.
use mathlib.Core.Path.{◌≡◌, sym, ap, ◌∙◌, subst}
use mathlib.Core.Bool.{Bool, true, false}
use mathlib.Core.List.{List, Memᴰ}
use mathlib.Core.Logic.{∥∥₁_elim}
use native.Mathlib.Nat.{ℕ_set}
use Prim.Native.Nat.{ℕ, ◌<◌}
use lib.Ieee.{Float}
use Rattle.vectors.specs.declared.Vec3.{Vec3}
use Rattle.corners.specs.declared.Cube.{Cube}
use Rattle.corners.specs.declared.SortedSpeakers.{SortedSpeakers}
use Rattle.corners.specs.Choice.{Corner, corner}
use Rattle.corners.specs.Sorted.{StandIn}
use Rattle.corners.specs.Found.{layer_of, chosen, Inside}
use Rattle.panning.specs.declared.LayerShares.{LayerShares}
use Rattle.panning.specs.declared.Shares.{Shares}
use Rattle.panning.specs.Terms.{ratio, up, ahead, across}
use Rattle.panning.specs.Facts.{Pans}
use Rattle.panning.specs.Shares.{layer_shares, Part, LayerSharesOf, SharesOf}

module _ {sp : ℕ → Vec3} {l : List ℕ} {n : Float} {p : Vec3} (a : Pans sp l n p) {c : Cube} (h : chosen c ≡ corner sp l p) where
  pub inside : ((k : ℕ) → Memᴰ k l → k < 12) → Inside c
  inside few = record {
    bottom = record { fl = at false true false; fr = at false true true; rl = at false false false; rr = at false false true };
    top = record { fl = at true true false; fr = at true true true; rl = at true false false; rr = at true false true };
  }
    where
      at : (top front right : Bool) → chosen c (record { top = top; front = front; right = right }) < 12
      at top front right =
          let k : Corner = record { top = top; front = front; right = right } in
          subst (λ (ch : Corner → ℕ). ch k < 12) (sym h) (few (corner sp l p k) (a.corners k))

  -- a share of the corners that the rules choose, at those that the code has chosen
  part : (f : (Corner → ℕ) → Float) {x : Float} → Part (f (corner sp l p)) → x ≡ f (chosen c) → (x ≡ f (chosen c)) × Part x
  part f k e = (e, subst Part (sym (e ∙ ap f h)) k)

  layer_are : (top : Bool) {r : LayerShares} → r ≡ layer_shares sp (layer_of top c) p → LayerSharesOf sp c p top r
  unfolding ahead across
  layer_are top e = record {
    ahead = part (λ ch. ahead sp ch p top) (a.ahead top) (ap (λ (l : LayerShares). l.ahead) e);
    front = part (λ ch. across sp ch p top true) (a.across top true) (ap (λ (l : LayerShares). l.front) e);
    rear = part (λ ch. across sp ch p top false) (a.across top false) (ap (λ (l : LayerShares). l.rear) e);
  }

  pub shares_are : {s : Shares} → s.up ≡ ratio (sp c.bottom.front.low).y (sp c.top.front.low).y p.y → s.bottom ≡ layer_shares sp c.bottom p →
      s.top ≡ layer_shares sp c.top p → SharesOf sp c p s
  unfolding up
  shares_are u b t = record { up = part (λ ch. up sp ch p) a.up u; bottom = layer_are false b; top = layer_are true t }

-- what the walk of a hall has found, for whoever stands in it
pub found : {sp : ℕ → Vec3} {l : List ℕ} (p : Vec3) (h : SortedSpeakers) {c : Cube} → ∥ StandIn sp l h ∥₁ →
    ((sp : ℕ → Vec3) (l : List ℕ) → StandIn sp l h → chosen c ≡ corner sp l p) → chosen c ≡ corner sp l p
found {sp} {l} p h t f = ∥∥₁_elim t (hlevel ℕ_set) (λ s. f sp l s)
