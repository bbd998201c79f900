-- R-3: "a block that is applied sets it", whatever ramp is left, and a ramp leaves it. Assumes nothing.
use Prim.Native.Nat.{ℕ}
use mathlib.Core.Path.{◌≡◌, refl}
use mathlib.Core.Bool.{Bool, true, false, ◌&&◌, cond}
use mathlib.Core.List.{List}
use lib.Ieee.{Float}
use Rattle.vectors.specs.declared.Vec3.{Vec3}
use Rattle.vectors.specs.Vectors.{lerp_vec3}
use Rattle.timed.specs.Infos.{send_at}
use Rattle.timed.specs.Objects.{put_at, object_moved, ramped}
use Rattle.timed.specs.declared.state.Track.{Track}
use Rattle.timed.specs.declared.state.DynamicSourceState.{DynamicSourceState}

pub block_sets_send : (arrived : Bool) (k : ℕ) (s : DynamicSourceState) (is : List ℕ) → (object_moved arrived k s is).moved.source.send ≡ send_at is k
unfolding object_moved
block_sets_send arrived k s is = refl

pub ramp_keeps_send : (t : Float) (last : Bool) (k : Track) (s : DynamicSourceState) → (ramped t last k s).send ≡ s.send
unfolding ramped
ramp_keeps_send t last k s = go k.now (cond s.wanted s.place (cond (last && s.placed) (lerp_vec3 s.place k.future t) k.future))
  where
    go : (b : Bool) (place : Vec3) → (cond b (put_at place true s) s).send ≡ s.send
    go true place = refl
    go false place = refl
