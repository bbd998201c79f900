-- An applied block, from what the code read and stored of its info. Assumes nothing.
use Prim.Native.Nat.{ℕ, ◌+◌}
use mathlib.Core.Path.{◌≡◌, refl, sym}
use mathlib.Core.Bool.{Bool, true, false, cond, not, ◌&&◌, true≢false}
use mathlib.Core.List.{List}
use Rattle.vectors.specs.declared.BlockPosition.{BlockPosition}
use Rattle.vectors.specs.declared.Placed.{Placed}
use Rattle.vectors.specs.Target.{placed}
use Rattle.timed.specs.InfoSizes.{position_byte, last_byte, info_at}
use Rattle.timed.specs.Infos.{block_position, with_vec}
use Rattle.timed.specs.Objects.{put_at, with_levels, object_moved, after_move}
use Rattle.timed.specs.TimedResults.{IsMoved}
use Rattle.timed.specs.declared.state.DynamicSourceState.{DynamicSourceState}
use Rattle.timed.specs.declared.state.Track.{Track}

-- of info k, for the object s: its position b, the target p, the object h with the gain, size and send that it takes, and the infos `out` after both stores
pub record BlockRead (k : ℕ) (s : DynamicSourceState) (is : List ℕ) (b : BlockPosition) (p : Placed) (h : DynamicSourceState) (out : List ℕ) : Type 0 where
  pub block : b ≡ block_position is k
  pub target : p ≡ placed b s.place
  pub levels : h ≡ with_levels is k s
  pub infos : out ≡ with_vec (with_vec is (info_at k + position_byte) p.position) (info_at k + last_byte) p.last

-- the place of an object that moves, by whether a hold of it is asked for; and of one that doesn't
arrives : {A : Type 0} (valid arrived wanted : Bool) (x y : A) → (valid && arrived) ≡ true → cond (valid && arrived && not wanted) x y ≡ cond wanted y x
arrives true true true x y e = refl
arrives true true false x y e = refl
arrives true false wanted x y e = absurd (true≢false (sym e))
arrives false arrived wanted x y e = absurd (true≢false (sym e))

stays : {A : Type 0} (valid arrived wanted : Bool) (x y : A) → (valid && arrived) ≡ false → cond (valid && arrived && not wanted) x y ≡ y
stays true true wanted x y e = absurd (true≢false e)
stays true false wanted x y e = refl
stays false arrived wanted x y e = refl

module _ {k : ℕ} {s : DynamicSourceState} {is : List ℕ} {b : BlockPosition} {p : Placed} {h : DynamicSourceState} {out : List ℕ}
    (r : BlockRead k s is b p h out) (arrived : Bool) where
  moved_by : object_moved arrived k s is ≡ after_move arrived k s is b p
  unfolding object_moved
  moved_by = rw (r.target, r.block)

  abbrev track : Track
  track = record { now = b.valid; future = p.target }

  -- the object put at its target, but for one that is held
  abbrev there : DynamicSourceState
  there = put_at (cond h.wanted h.place p.target) true h

  pub put_there : (b.valid && arrived) ≡ true → IsMoved (object_moved arrived k s is) (record { source = there; track = track }) out
  put_there e = record { object = rw (moved_by, r.levels, arrives b.valid arrived s.wanted p.target s.place e, e); infos = rw (moved_by, r.infos) }

  -- the object left where it is
  pub left_there : (b.valid && arrived) ≡ false → IsMoved (object_moved arrived k s is) (record { source = h; track = track }) out
  left_there e = record { object = rw (moved_by, r.levels, stays b.valid arrived s.wanted p.target s.place e, e); infos = rw (moved_by, r.infos) }
