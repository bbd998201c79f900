-- What the theorem over every list of calls takes from the crates `timed`, `records` and `store`. All else is taken from the proofs of the crates below. Assumes nothing.
use Prim.Native.Nat.{ℕ, ◌+◌, ◌≤◌, ◌<◌}
use mathlib.Core.Path.{◌≡◌}
use mathlib.Core.Bool.{Bool, true, false, not}
use mathlib.Core.List.{List, map}
use lib.Dec.{T}
use lib.ListN.{length}
use Rattle.ieee.specs.Bounds.{All}
use Rattle.words.specs.Words.{Bytes}
use Rattle.panning.specs.Choice.{1·0}
use Rattle.panning.specs.Table.{between, 8·0, Position}
use Rattle.rules.specs.Parts.{0·0}
use Rattle.rules.specs.Leaves.{Leaves, Source, Bed, started}
use Rattle.rules.specs.Samples.{State}
use Rattle.rules.specs.Promises.{object_in}
use Rattle.rules.specs.Ranges.{HallRanged, AllRanged}
use Rattle.rules.specs.BlockCalls.{Layout}

-- a gain from 0 to 8, a size from 0 to 1, a place of f32 values, a send from 0 to 1
pub record InHall (s : Source) : Type 0 where
  pub gain : T (between 0·0 8·0 s.gain)
  pub size : T (between 0·0 1·0 s.size)
  pub place : Position s.place
  pub send : T (between 0·0 1·0 s.send)

-- at most 18 beds, each with a gain from 0 to 8, and at most 16 objects
pub record Mixable (bs : List Bed) (ss : List Source) : Type 0 where
  pub few_beds : length bs ≤ 18
  pub beds : All (λ (b : Bed). T (between 0·0 8·0 b.gain)) bs
  pub few_objects : length ss ≤ 16
  pub objects : All InHall ss

pub record Facts (L : Leaves) (B : Layout L) : Type 1 where
  -- R-12: what waits lies in its ranges at a stream position, its floats of any bits; and with gains, sizes and sends as refusal 6 has them
  pub Ahead : ℕ → L.Waits → Type 0
  pub Kept : L.Waits → Type 0
  pub ahead_none : Ahead 0 L.no_waits
  pub kept_none : Kept L.no_waits
  pub ahead_settle : (n k : ℕ) (ws : L.Waits) (meta : List ℕ) → n + k ≤ 1099511627776 → Ahead n ws → Bytes meta → L.laid_out meta ≡ true → L.in_range meta ≡ true
      → L.fits n k ws meta ≡ true → Ahead (n + k) (L.settle n k ws meta)
  pub kept_settle : (n k : ℕ) (ws : L.Waits) (meta : List ℕ) → Kept ws → Bytes meta → L.laid_out meta ≡ true → L.in_range meta ≡ true → L.fits n k ws meta ≡ true
      → Kept (L.settle n k ws meta)
  -- what refusals 5 and 6 leave of each update of a push, and of those that wait
  pub Checked : L.Update → Type 0
  pub checked : (n k : ℕ) (ws : L.Waits) (meta : List ℕ) → Kept ws → Bytes meta → L.laid_out meta ≡ true → L.in_range meta ≡ true → All Checked (L.updates n k ws meta)
  -- what the ranges ask of an update: its layout, its blocks and depth factors
  pub Shaped : L.Update → Type 0
  pub shaped : (n k : ℕ) (ws : L.Waits) (meta : List ℕ) → Ahead n ws → Bytes meta → L.laid_out meta ≡ true → L.in_range meta ≡ true → All Shaped (L.updates n k ws meta)
  -- a timed state that such updates made from the blank one: gains from 0 to 8, sizes and sends from 0 to 1
  pub Sound : L.Meta → Type 0
  pub sound_blank : Sound L.blank
  pub sound_apply : (n : ℕ) (u : L.Update) (m : L.Meta) → Checked u → Sound m → Sound (L.apply n u m)
  pub sound_slot : (n : ℕ) (m : L.Meta) → Sound m → Sound (L.slot n m)
  pub mixable : (m : L.Meta) → Sound m → Mixable (L.beds m) (L.objects m)
  -- the shape after an update is the update's, and started; a slot keeps it; it counts the objects and has the beds' codes
  pub shape_apply : (n : ℕ) (u : L.Update) (m : L.Meta) → Checked u → Sound m → L.shape (L.apply n u m) ≡ L.sent u
  pub sent_started : (u : L.Update) → Checked u → (L.sent u).started ≡ true
  pub shape_slot : (n : ℕ) (m : L.Meta) → Sound m → L.shape (L.slot n m) ≡ L.shape m
  pub shape_objects : (m : L.Meta) → Sound m → started L m ≡ true → length (L.objects m) ≡ (L.shape m).objects
  pub shape_beds : (m : L.Meta) → Sound m → started L m ≡ true → map (λ (b : Bed). b.code) (L.beds m) ≡ (L.shape m).beds
  -- R-11: a hold or a release changes what is asked for of its own object, and nothing that is heard
  pub sound_want : (w : Bool) (d : ℕ) (m : L.Meta) → Sound m → Sound (L.want w d m)
  pub shape_want : (w : Bool) (d : ℕ) (m : L.Meta) → L.shape (L.want w d m) ≡ L.shape m
  pub beds_want : (w : Bool) (d : ℕ) (m : L.Meta) → L.beds (L.want w d m) ≡ L.beds m
  pub objects_want : (w : Bool) (d : ℕ) (m : L.Meta) → L.objects (L.want w d m) ≡ L.objects m
  pub wants_want : (w : Bool) (d : ℕ) (m : L.Meta) → Sound m → d < (L.shape m).objects → L.wants d (L.want w d m) ≡ w
  -- and the later of two undoes the earlier
  pub want_back : (w : Bool) (d : ℕ) (m : L.Meta) → Sound m → d < (L.shape m).objects → L.wants d m ≡ w → L.want w d (L.want (not w) d m) ≡ m
  pub wants_other : (w : Bool) (d k : ℕ) (m : L.Meta) → (k ≡ d → ⊥) → L.wants k (L.want w d m) ≡ L.wants k m
  -- nothing is asked for of a new renderer; a slot keeps what is asked for, and leaves a held object where it is
  pub wants_blank : (d : ℕ) → L.wants d L.blank ≡ false
  pub wants_slot : (n d : ℕ) (m : L.Meta) → Sound m → d < (L.shape m).objects → L.wants d (L.slot n m) ≡ L.wants d m
  pub held_slot : (n d : ℕ) (m : L.Meta) → Sound m → d < (L.shape m).objects → L.wants d m ≡ true
      → (object_in L (L.slot n m) d).place ≡ (object_in L m d).place
  -- so does an update with as many objects; one with another number ends all holds
  pub wants_apply : (n d : ℕ) (u : L.Update) (m : L.Meta) → (L.sent u).objects ≡ (L.shape m).objects → L.wants d (L.apply n u m) ≡ L.wants d m
  pub objects_apply : (n : ℕ) (u : L.Update) (m : L.Meta) → (L.sent u).objects ≡ (L.shape m).objects → L.objects (L.apply n u m) ≡ L.objects m
  pub ends_apply : (n d : ℕ) (u : L.Update) (m : L.Meta) → ((L.sent u).objects ≡ (L.shape m).objects → ⊥) → L.wants d (L.apply n u m) ≡ false
  -- the timed state's ranges at a stream position, gains of any bits
  pub Within : ℕ → L.Meta → Type 0
  pub within_blank : Within 0 L.blank
  pub within_later : (n k : ℕ) (m : L.Meta) → n ≤ k → Within n m → Within k m
  pub within_apply : (n : ℕ) (u : L.Update) (m : L.Meta) → n ≤ 1099511627776 → Shaped u → Within n m → Within n (L.apply n u m)
  pub within_want : (n : ℕ) (w : Bool) (d : ℕ) (m : L.Meta) → Within n m → Within n (L.want w d m)
  pub within_slot : (n start : ℕ) (m : L.Meta) → start ≤ n → n ≤ 1099511627776 → Within n m → Within n (L.slot start m)
  -- a block whose hall is in its range holds a renderer for such a hall
  pub setup : (b : List ℕ) → Bytes b → B.hall_valid b ≡ true → HallRanged (B.decode b).setup
  -- the block of a renderer in its ranges is as long as it should be, valid, and gives the renderer back; a valid block holds a renderer in its ranges
  pub size : (r : State L) → AllRanged L Within Ahead r → length (B.encode r) ≡ B.size
  pub valid : (r : State L) → AllRanged L Within Ahead r → B.valid (B.encode r) ≡ true
  pub hall_valid : (r : State L) → AllRanged L Within Ahead r → B.hall_valid (B.encode r) ≡ true
  pub back : (r : State L) → AllRanged L Within Ahead r → B.decode (B.encode r) ≡ r
  pub decoded : (b : List ℕ) → Bytes b → B.valid b ≡ true → AllRanged L Within Ahead (B.decode b)

-- a renderer within its ranges between calls
abbrev pub InRanges : {L : Leaves} {B : Layout L} → Facts L B → State L → Type 0
InRanges {L} F r = AllRanged L F.Within F.Ahead r
