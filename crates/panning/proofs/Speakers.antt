-- The speakers of the 7.1.4 hall are a table, and so is each part of a table that has a speaker. Assumes nothing.
use mathlib.Core.Bool.{Bool, true, false, not, ◌&&◌, cond}
use mathlib.Core.List.{List, [], ◌∷◌}
use Prim.Native.Nat.{ℕ}
use lib.Dec.{T, eqb}
use lib.Ieee.{fits, lt, le, eq}
use lib.Ieee.Fits.{and_i, and_l, and_r}
use Rattle.vectors.specs.declared.Vec3.{Vec3}
use Rattle.corners.specs.Choice.{keep, every_of}
use Rattle.corners.specs.Table.{Table, between, placed_inside, alike, distinct, occupied}
use Rattle.panning.specs.Speakers.{positions714, hall714, full_range}
use Rattle.corners.proofs.Lists.{keep→, every→, →every}

pub hall714_table : Table hall714 full_range
unfolding positions714 hall714 every_of distinct between fits lt le eq
hall714_table = record { some = tt; placed = tt; distinct = tt }

-- ---- halls with fewer speakers
module _ (sp : ℕ → Vec3) (f : ℕ → Bool) where
  abbrev far : ℕ → ℕ → Bool
  far k j = not (eqb k j) && not (alike (sp k) (sp j))

  keep_distinct : (l : List ℕ) → T (distinct sp l) → T (distinct sp (keep f l))
  unfolding distinct keep
  keep_distinct [] d = tt
  keep_distinct (k ∷ l) d = go (f k) (keep_distinct l (and_r (every_of (far k) l) (distinct sp l) d))
    where
      go : (b : Bool) → T (distinct sp (keep f l)) → T (distinct sp (cond b (k ∷ keep f l) (keep f l)))
      go true r = and_i (every_of (far k) (keep f l)) (distinct sp (keep f l))
          (→every (far k) (keep f l) (λ j m. every→ (far k) l (and_l (every_of (far k) l) (distinct sp l) d) j (keep→ f l m).0)) r
      go false r = r

  pub fewer : (l : List ℕ) → Table sp l → T (occupied (keep f l)) → Table sp (keep f l)
  fewer l t h = record {
    some = h;
    placed = →every (λ k. placed_inside (sp k)) (keep f l) (λ k m. every→ (λ k. placed_inside (sp k)) l t.placed k (keep→ f l m).0);
    distinct = keep_distinct l t.distinct;
  }
