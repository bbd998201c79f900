-- What refusals 5 and 6 leave of an update, and a state block's ranges of one that waits (R-12). Assumes nothing.
use Prim.Native.Nat.{ℕ, zero, suc, ◌+◌, ◌*◌, ◌/◌, ◌%◌, ◌≤◌, ◌<◌}
use mathlib.Core.Path.{◌≡◌, refl, sym, ap, subst}
use mathlib.Core.Bool.{Bool, true, false, cond, ◌&&◌, ◌||◌}
use mathlib.Core.List.{List}
use lib.Dec.{T, eqb, leb, ltb, lt→ltb}
use lib.ListN.{get_or}
use lib.Ieee.{Float, binary32, of_bits, fits}
use lib.Ieee.Bits.{of_bits-fits}
use native.Mathlib.Omega.{arith}
use borrow.Author.Tests.{leb-true, ltb-true}
use Rattle.std.specs.Prelude.{Option, Some, None}
use Rattle.ieee.specs.Bounds.{All}
use Rattle.words.specs.Words.{Bytes, word, float_at}
use Rattle.words.proofs.Small.{number_small}
use Rattle.panning.specs.Choice.{0·0, 1·0}
use Rattle.panning.specs.Table.{between, 8·0}
use Rattle.fields.specs.RecordBytes.{byte, kind, has}
use Rattle.fields.specs.Update.{is_far, objects, bed_or_isf_of, beds, elements, code, counts_fit, most_at, codes_fit, is_update}
use Rattle.fields.specs.Block.{blocks}
use Rattle.fields.specs.ObjectInfos.{stored_info}
use Rattle.fields.specs.Object.{is_object, maybe_of, depth_code, object_of, absent_or, object_in_range}
use Rattle.fields.specs.declared.object.Info.{Info}
use Rattle.fields.proofs.All.{and_left, and_right, all_at}
use Rattle.records.specs.Runs.{each}
use Rattle.records.specs.Laid.{laid_out, count, update_at, element_at, object_at}
use Rattle.records.specs.ValuesInRange.{in_range, all_fit}
use Rattle.waits.specs.Area.{waiting_count, kept_records}
use Rattle.records.proofs.Theorems.{whole_records, update_whole, update_is, element_whole, object_is, all_within, in_range_fits, objects_fit}
use Rattle.info.specs.Written.{head_of}
use Rattle.records.specs.WholeRecords.{WholeUpdate}
use Rattle.records.proofs.Passed.{passes}
use Rattle.store.specs.ValidBlocks.{head_valid}
use Rattle.store.proofs.BlockTests.{and_in}
use Rattle.updates.specs.Said.{update_of}
use Rattle.rules.proofs.Theorems.{all_append}
use Rattle.theorem.specs.Instance.{Sent, sent_at, ahead_at, sent_in}
use Rattle.theorem.proofs.AheadRanges.{Ahead, Kept, kept_bytes, laid_ahead}
use Rattle.theorem.proofs.Sound.{UpTo}
use Rattle.theorem.proofs.InfosWritten.{Said, Fit}

-- it is an update of records that are laid out; its blocks and depth factors are in their ranges
pub record Shaped (s : Sent) : Type 0 where
  pub meta : List ℕ
  pub index : ℕ
  pub bytes : Bytes meta
  pub laid : laid_out meta ≡ true
  pub fit : all_fit meta ≡ true
  pub there : index < count meta
  pub is : s.said ≡ update_of meta (update_at meta index)

-- its gains, sizes and sends too, as refusal 6 has them
pub record Checked (s : Sent) : Type 0 where
  pub meta : List ℕ
  pub index : ℕ
  pub bytes : Bytes meta
  pub laid : laid_out meta ≡ true
  pub range : in_range meta ≡ true
  pub there : index < count meta
  pub is : s.said ≡ update_of meta (update_at meta index)

pub each_all : {A : Type 0} (P : A → Type 0) (f : ℕ → A) (n : ℕ) → ((k : ℕ) → k < n → P (f k)) → All P (each f n)
unfolding each
each_all P f zero h = tt
each_all P f (suc n) h = (h 0 (omega arith), each_all P (λ k. f (suc k)) n (λ k l. h (suc k) (omega arith)))

-- those that wait, and a frame's own
pub checked : (start n : ℕ) (ws meta : List ℕ) → Kept ws → Bytes meta → laid_out meta ≡ true → in_range meta ≡ true → All Checked (sent_in start n ws meta)
checked start n ws meta k b l f =
    all_append Checked (each (ahead_at start n ws) (waiting_count ws)) (each (sent_at n meta) (count meta))
    (each_all Checked (ahead_at start n ws) (waiting_count ws)
    (λ i h. record { meta = kept_records ws; index = i; bytes = kept_bytes ws k.bytes; laid = k.laid; range = k.range; there = rw k.counted h; is = refl }))
    (each_all Checked (sent_at n meta) (count meta) (λ i h. record { meta = meta; index = i; bytes = b; laid = l; range = f; there = h; is = refl }))

pub shaped : (start n : ℕ) (ws meta : List ℕ) → Ahead start ws → Bytes meta → laid_out meta ≡ true → in_range meta ≡ true → All Shaped (sent_in start n ws meta)
shaped start n ws meta a b l f =
    let k = laid_ahead start ws a in
    all_append Shaped (each (ahead_at start n ws) (waiting_count ws)) (each (sent_at n meta) (count meta))
    (each_all Shaped (ahead_at start n ws) (waiting_count ws)
    (λ i h. record { meta = kept_records ws; index = i; bytes = kept_bytes ws a.bytes; laid = k.laid; fit = k.fit; there = rw k.counted h; is = refl }))
    (each_all Shaped (sent_at n meta) (count meta)
    (λ i h. record { meta = meta; index = i; bytes = b; laid = l; fit = in_range_fits meta f; there = h; is = refl }))

-- ---- what is said of an info: its head, gain and size

abbrev pub value_in : ℕ → ℕ → ℕ → Option Float
value_in head bit w = cond (has head bit) (Some (of_bits binary32 w)) None

abbrev pub SoundSaid : Said
SoundSaid h g z d = UpTo 8·0 (value_in h 4 g) × UpTo 1·0 (value_in h 32 z) × T (between 0·0 1·0 (of_bits binary32 d))

abbrev pub RangedSaid : Said
RangedSaid h g z d = T (head_valid h)

t_of : (b : Bool) → b ≡ true → T b
t_of true e = tt
t_of false e = absurd (let z : ◌≡◌ {A = ℕ} 0 1 = cc in omega arith)

up_to : (most : Float) (b : Bool) (w : ℕ) → absent_or most (cond b (Some (of_bits binary32 w)) None) ≡ true → UpTo most (cond b (Some (of_bits binary32 w)) None)
unfolding between
up_to most true w e = and_in (fits binary32 (of_bits binary32 w)) _ (of_bits-fits binary32 w) (t_of _ e)
up_to most false w e = tt

-- a head of the flags f and the depth d
record HeadOf (f d n : ℕ) : Type 0 where
  low : n % 256 ≡ f
  anchor : n / 256 % 256 ≤ 2
  less : n < 262144
  gain : n / 4 % 2 ≡ f / 4 % 2
  size : n / 32 % 2 ≡ f / 32 % 2

head_of_is : (f a d n : ℕ) → f ≤ 63 → a ≤ 2 → d < 4 → n ≡ f + a * 256 + d * 65536 → HeadOf f d n
head_of_is f a d n x y z e = record { low = omega arith; anchor = omega arith; less = omega arith; gain = omega arith; size = omega arith }

bed_head : (bed : Bool) (f a d : ℕ) (i : Info) → f ≤ 63 → a ≤ 2 → d < 4 → i.head ≡ f + a * 256 + d * 65536 → HeadOf f d (head_of bed i)
bed_head true f a d i x y z e = head_of_is f 2 d (head_of true i) x (omega arith) z (let p : i.head % 256 ≡ f = omega arith in let q : i.head / 65536 ≡ d = omega arith in
    omega arith)
bed_head false f a d i x y z e = head_of_is f a d i.head x y z e

head_valid_is : (f d n : ℕ) → f ≤ 63 → HeadOf f d n → T (head_valid n)
head_valid_is f d n x h =
    let a = h.low in
    let b = h.anchor in
    and_in (ltb n 262144 && ltb (n % 256) 64) (ltb (n / 256 % 256) 3) (and_in (ltb n 262144) (ltb (n % 256) 64) (lt→ltb n 262144 h.less) (lt→ltb (n % 256) 64 (omega arith)))
    (lt→ltb (n / 256 % 256) 3 (omega arith))

-- ---- an update of records that are laid out

module _ (m : List ℕ) (bytes : Bytes m) (laid : laid_out m ≡ true) (fit : all_fit m ≡ true) (i : ℕ) (one : i < count m) where
  abbrev u : ℕ
  u = update_at m i

  pub whole : WholeUpdate m u
  whole = passes m laid fit bytes i one

  pub codes : (k : ℕ) → k < 18 → code m u k ≤ 17
  unfolding is_update codes_fit
  codes k l =
      let e = update_is m laid i one in
      let f : codes_fit m (40 * u + 8) (beds m u) ≡ true = and_right ((eqb (kind m u) 1 || is_far m u) && eqb (byte m u 1) 0 && counts_fit (objects m u) (bed_or_isf_of m u) (beds m u) (elements m u)) _
      (and_left _ _ e) in
      let c : get_or m (40 * u + 8 + k) 0 ≤ most_at k (beds m u) = leb-true _ _ (all_at (λ j. leb (get_or m (40 * u + 8 + j) 0) (most_at j (beds m u))) 18 k l f) in
      let q : get_or m (40 * u + 8 + k) 0 ≡ byte m u (8 + k) = ap (λ (j : ℕ). get_or m j 0) (let a : 40 * u + 8 + k ≡ 40 * u + (8 + k) = omega arith in a) in
      let d = most k (beds m u) in
      omega arith
    where
      most : (k n : ℕ) → most_at k n ≤ 17
      most k n = pick (ltb k n)
        where
          pick : (b : Bool) → cond b 17 0 ≤ 17
          pick true = omega arith
          pick false = omega arith

  module _ (e o b : ℕ) (he : e < elements m u) (ho : o < objects m u) (hb : b < blocks m (element_at m u e)) where
    abbrev r : ℕ
    r = object_at m (element_at m u e) (o * blocks m (element_at m u e) + b)

    object : is_object m r ≡ true
    object = object_is m (whole_records m laid) (objects m u) (element_at m u e) (element_whole m (whole_records m laid) u e (update_whole m laid i one) he) o b ho hb

    flags_few : byte m r 2 ≤ 63
    unfolding is_object
    flags_few = leb-true _ _ (and_right (eqb (kind m r) 4 && leb (byte m r 1) 2) _ (and_left _ _ (and_left _ _ object)))

    anchor_listed : byte m r 1 ≤ 2
    unfolding is_object
    anchor_listed = leb-true _ _ (and_right (eqb (kind m r) 4) _ (and_left _ _ (and_left _ _ (and_left _ _ object))))

    depth_listed : depth_code (float_at m (40 * r + 32)) < 4
    depth_listed = ltb-true _ _ (objects_fit m laid fit i e o b one he ho hb)

    head_is : (bed : Bool) → HeadOf (byte m r 2) (depth_code (float_at m (40 * r + 32))) (head_of bed (stored_info m r))
    head_is bed = bed_head bed (byte m r 2) (byte m r 1) (depth_code (float_at m (40 * r + 32))) (stored_info m r) flags_few anchor_listed depth_listed refl

    abbrev SaidOf : Said → Bool → Type 0
    SaidOf P bed = P (head_of bed (stored_info m r)) (stored_info m r).gain (stored_info m r).size (stored_info m r).send

    pub fit_for : (P : Said) (bed : Bool) → SaidOf P bed → Fit P bed (stored_info m r)
    fit_for P bed p =
        let h = (head_is bed).less in
        record {
          head = omega arith;
          gain = number_small m (40 * r + 4) 4 bytes;
          size = number_small m (40 * r + 24) 4 bytes;
          send = number_small m (40 * r + 36) 4 bytes;
          holds = p;
        }

    pub info_ranged : (bed : Bool) → Fit RangedSaid bed (stored_info m r)
    info_ranged bed = fit_for RangedSaid bed (head_valid_is (byte m r 2) (depth_code (float_at m (40 * r + 32))) (head_of bed (stored_info m r)) flags_few (head_is bed))

    -- its gain, size and send, as refusal 6 has them
    module _ (range : in_range m ≡ true) where
      inside : object_in_range (object_of m r) ≡ true
      inside = (all_within m laid range).object i e o b one he ho hb

      gain_in : UpTo 8·0 (cond (has (byte m r 2) 4) (Some (of_bits binary32 (word m (40 * r + 4)))) None)
      unfolding maybe_of float_at
      gain_in = up_to 8·0 (has (byte m r 2) 4) (word m (40 * r + 4)) (and_left (absent_or 8·0 (object_of m r).gain) _ (and_left _ _ (and_left _ _ inside)))

      size_in : UpTo 1·0 (cond (has (byte m r 2) 32) (Some (of_bits binary32 (word m (40 * r + 24)))) None)
      unfolding maybe_of float_at
      size_in = up_to 1·0 (has (byte m r 2) 32) (word m (40 * r + 24)) (and_right (absent_or 8·0 (object_of m r).gain) _ (and_left _ _ (and_left _ _ inside)))

      send_in : T (between 0·0 1·0 (of_bits binary32 (word m (40 * r + 36))))
      unfolding float_at between
      send_in = and_in (fits binary32 (of_bits binary32 (word m (40 * r + 36)))) _ (of_bits-fits binary32 (word m (40 * r + 36)))
          (t_of _ (and_right (absent_or 8·0 (object_of m r).gain && absent_or 1·0 (object_of m r).size && ltb (object_of m r).depth 4) _ inside))

      pub info_sound : (bed : Bool) → Fit SoundSaid bed (stored_info m r)
      info_sound bed =
          let n = head_of bed (stored_info m r) in
          let h = head_is bed in
          fit_for SoundSaid bed (
            subst (λ (k : ℕ). UpTo 8·0 (cond (eqb k 1) (Some (of_bits binary32 (word m (40 * r + 4)))) None)) (sym h.gain) gain_in,
            subst (λ (k : ℕ). UpTo 1·0 (cond (eqb k 1) (Some (of_bits binary32 (word m (40 * r + 24)))) None)) (sym h.size) size_in,
            send_in,
          )
