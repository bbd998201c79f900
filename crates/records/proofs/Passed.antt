-- Metadata that refusal 5 lets pass, of blocks as refusal 6 lets them pass: each of its updates is as an applied update asks. Assumes nothing.
use Prim.Native.Nat.{ℕ, ◌+◌, ◌*◌, ◌<◌}
use mathlib.Core.Path.{◌≡◌, ◌∙◌}
use mathlib.Core.Bool.{Bool, true, ◌&&◌}
use mathlib.Core.List.{List}
use lib.Dec.{leb}
use native.Mathlib.Omega.{arith}
use borrow.Author.Tests.{leb-true}
use Rattle.words.specs.Words.{Bytes}
use Rattle.fields.specs.Update.{objects, elements}
use Rattle.fields.specs.Block.{blocks}
use Rattle.fields.specs.Raised.{raised_of}
use Rattle.fields.proofs.All.{and_left, and_right}
use Rattle.fields.proofs.Raised.{raised_within}
use Rattle.records.specs.Laid.{block_at, element_at, update_at, laid_out, count}
use Rattle.records.specs.ValuesInRange.{all_fit}
use Rattle.records.specs.LayoutAnswers.{IsLayout}
use Rattle.records.specs.declared.sent.Layout.{Layout}
use Rattle.records.proofs.Within.{element_within}
use Rattle.records.proofs.Reached.{whole_records, update_whole, update_is, update_place, update_counts, element_whole, blocks_few}
use Rattle.records.proofs.Fits.{blocks_fit}
use Rattle.records.specs.WholeRecords.{WholeElement, WholeUpdate, WholeUpdates}

module _ (m : List ℕ) (laid : laid_out m ≡ true) (fit : all_fit m ≡ true) (bytes : Bytes m) (i : ℕ) (one : i < count m) where
  element_passes : (e : ℕ) → e < elements m (update_at m i) → WholeElement m (objects m (update_at m i)) (element_at m (update_at m i) e)
  element_passes e h =
      let u = update_at m i in
      let p = element_at m u e in
      let whole = whole_records m laid in
      let w = element_whole m whole u e (update_whole m laid i one) h in
      let end = element_within m whole (objects m u) p w in
      let offset : ℕ → Bool = λ b. leb (raised_of m (block_at p b)).offset 2097152 in
      let ramp : ℕ → Bool = λ b. leb (raised_of m (block_at p b)).ramp 2097152 in
      let range : (b : ℕ) → b < blocks m p → (offset b && ramp b) ≡ true = λ b l. raised_within m bytes (block_at p b) ∙ blocks_fit m laid fit i e b one h l in
      record {
        given = record {
          few = blocks_few m whole (objects m u) p w;
          within = omega arith;
          offsets = λ b l. leb-true (raised_of m (block_at p b)).offset 2097152 (and_left (offset b) (ramp b) (range b l));
          ramps = λ b l. leb-true (raised_of m (block_at p b)).ramp 2097152 (and_right (offset b) (ramp b) (range b l));
        };
        within = omega arith;
      }

  -- update i of the metadata
  pub passes : WholeUpdate m (update_at m i)
  passes =
      let u = update_at m i in
      let k = update_counts m (whole_records m laid) u (update_is m laid i one) in
      let byte = bytes (40 * u + 5) in
      record {
        within = update_place m laid i one;
        few_objects = k.few_objects;
        few_isf = omega arith;
        few_dynamic = k.few_dynamic;
        few_beds = k.few_beds;
        no_more_beds = k.beds_are_objects;
        few_elements = k.few_elements;
        each = element_passes;
      }

-- all updates, where the code's layout has them
pub passes_all : (m : List ℕ) → laid_out m ≡ true → all_fit m ≡ true → Bytes m → (l : Layout) → IsLayout m l → WholeUpdates m l
passes_all m laid fit bytes l g =
    record {
      few = rw g.counted g.few;
      all = λ i h. let one : i < count m = omega (arith, g.counted) in rw (g.places i one) (passes m laid fit bytes i one);
    }
