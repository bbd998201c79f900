-- Document 01, "Listening positions and edges": its nine cases marked P, as one table with one proposition. They are eleven rows, since two of them say two things: the first also
-- what gain 0.25 gives, the sixth two timecodes. Each number is an f32: 0.9 and a root are the ones nearest to those numbers. Assumes nothing.
use Rattle.std.specs.Prelude.{ℕ, ◌+◌, ◌*◌, ◌≡◌, Bool, true, false, cond, List, [], ◌∷◌, map, pos, negsuc, get_or, Float}
use Rattle.std.specs.Float.{nan, fin, binary32}
use Rattle.std.specs.Float.Ieee.{mul, div}
use Rattle.roots.specs.Root.{root, depth_power}
use Rattle.roots.specs.declared.Depth.{Depth}
use Rattle.roots.specs.declared.Depth.TheVariants.{Fourth}
use Rattle.vectors.specs.declared.Vec3.{Vec3}
use Rattle.vectors.specs.Vectors.{vec3}
use Rattle.timed.specs.declared.state.DynamicSourceState.{DynamicSourceState}
use Rattle.timed.specs.Objects.{no_source}
use Rattle.timed.specs.State.{slot_at}
use Rattle.updates.specs.Said.{Update}
use Rattle.updates.specs.Applied.{new_source, applied}
use Rattle.panning.specs.Terms.{term}
use Rattle.panning.specs.Setup.{hall_with, terms_in}
use Rattle.limiter.specs.Limiter.{0·9, block_peak}
use Rattle.rules.specs.Parts.{0·0, 1·0, twelve, Places, floats}
use Rattle.rules.specs.Samples.{limited}
use Rattle.store.specs.Layout.{blank}

abbrev 0·25 : Float
0·25 = fin false 1 (negsuc 1)

abbrev 0·5 : Float
0·5 = fin false 1 (negsuc 0)

abbrev 2·0 : Float
2·0 = fin false 1 (pos 1)

abbrev 16·0 : Float
16·0 = fin false 1 (pos 4)

abbrev -1·0 : Float
-1·0 = fin true 1 (pos 0)

-- ---- a row

pub data Case : Type 0 where
  -- an object of size 0, where it is panned, and its gain: it is mixed with this coefficient on these channels, once on each, and on no other
  panning : (place : Vec3) (gain coefficient : Float) (channels : List ℕ) → Case
  -- a block with this offset: whether the slot at this timecode applies it
  block : (offset timecode : ℕ) (applies : Bool) → Case
  -- y to the power that a depth factor names
  power : (depth : Depth) (y result : Float) → Case
  -- a block of this peak, at this gain of the limiter: what each sample becomes
  limiter : (peak gain : Float) (becomes : Float → Float) → Case

-- ---- a block in time

-- An update of one dynamic object and one element with one block: no ramp, gain 0.5, and the corner of the room that is (1, 1, 1) in its coordinates and (1, 1, -1) as panned.
-- Offset and ramp stand plus 2^20. In the head 13 says that gain and position are there and the position is valid, 0 that the anchor is room, and 2 that the depth factor is 1.
abbrev moving : ℕ → Update
moving offset =
    record {
      objects = 1;
      isf = 0;
      beds = 0;
      elements = 1;
      code = λ k. 0;
      element = λ e. record {
        blocks = 1;
        block = λ b. record { offset = 1048576 + offset; ramp = 1048576 };
        info = λ o b. record {
          head = 13 + 0 * 256 + 2 * 65536;
          gain = 0x3f00_0000;
          size = 0;
          distance = 0;
          screen = 0;
          x = 0x3f80_0000;
          y = 0x3f80_0000;
          z = 0x3f80_0000;
          send = 0;
        };
      };
    }

-- the object, once that update is applied as the first of a stream, at sample 4,096, and the slot at a timecode has started
abbrev pub case_object : ℕ → ℕ → DynamicSourceState
case_object offset timecode = get_or (slot_at (4096 + timecode) (applied 4096 (moving offset) blank)).state.sources 0 no_source

-- the object as the block has it
abbrev pub moved_object : DynamicSourceState
moved_object = record { gain = 0·5; size = 0·0; place = vec3 1·0 1·0 -1·0; placed = true; wanted = false; held = false; send = 0·0 }

-- ---- a block of the limiter

-- its peak. The samples are of any bits; a NaN counts for nothing in the peak, and stays a NaN.
abbrev pub peak_of : Places → Float
peak_of b = block_peak 0·0 (twelve (floats b))

-- at the gain g every block of peak p is given out so, on each channel, and there is such a block
pub record Limits (p g : Float) (f : Float → Float) : Type 0 where
  pub every : (b : Places) → peak_of b ≡ p → (c : ℕ) → limited g (floats b) c ≡ map f (floats b c)
  pub one : Places
  pub is : peak_of one ≡ p

-- ---- the proposition, and the cases

abbrev pub Tells : Case → Type 0
Tells (panning p g k cs) = terms_in (hall_with 0) p g 0·0 ≡ map (λ c. term c k) cs
Tells (block offset timecode applies) = case_object offset timecode ≡ cond applies moved_object new_source
Tells (power depth y r) = depth_power depth y ≡ r
Tells (limiter p g f) = Limits p g f

abbrev pub cases : List Case
cases =
    -- "(0, 0, 1): 1 on channel 2. With gain 0.25: 0.5."
    panning (vec3 0·0 0·0 1·0) 1·0 1·0 (2 ∷ []) ∷
    panning (vec3 0·0 0·0 1·0) 0·25 0·5 (2 ∷ []) ∷
    -- "(0, 0, -1): √0.5 on 4 and 5. (0, 0.5, -1): 0.5 on 4, 5, 10, 11."
    panning (vec3 0·0 0·0 -1·0) 1·0 (root 0·5) (4 ∷ 5 ∷ []) ∷
    panning (vec3 0·0 0·5 -1·0) 1·0 0·5 (4 ∷ 5 ∷ 10 ∷ 11 ∷ []) ∷
    -- "(0, 2, -1): √0.5 on 10 and 11. all NaN: 1 on 4."
    panning (vec3 0·0 2·0 -1·0) 1·0 (root 0·5) (10 ∷ 11 ∷ []) ∷
    panning (vec3 nan nan nan) 1·0 1·0 (4 ∷ []) ∷
    -- "block offset 0: not applied at timecode 0, applied at 64."
    block 0 0 false ∷
    block 0 64 true ∷
    -- "fourth root of 16: 2."
    power Fourth 16·0 2·0 ∷
    -- "peak 1, gain 1: unchanged. peak 2, gain 1: scaled by 0.9 / 2."
    limiter 1·0 1·0 (λ x. x) ∷
    limiter 2·0 1·0 (λ x. mul binary32 x (div binary32 0·9 2·0)) ∷ []
