-- The formats of the small part and of the hall are lawful: they are read back from their words. Assumes nothing.
use mathlib.Core.Path.{◌≡◌, refl}
use mathlib.Core.Bool.{Bool, true, false, ◌||◌}
use Prim.Native.Nat.{ℕ, ◌≤◌}
use native.Mathlib.Omega.{arith}
use lib.Dec.{T, eqb, leb, eqb→eq, leb→le, lit<, lit≤}
use lib.Ieee.Fits.{and_r}
use lib.ListN.{length}
use Rattle.words.specs.Words.{Words}
use Rattle.formats.specs.Lawful.{Lawful}
use Rattle.formats.specs.Format.{u8_to, flag, float, usize_to, u64_to, u32_below, u32_where, array}
use Rattle.formats.proofs.Theorems.{stands_all}
use Rattle.formats.proofs.Theorems.{lawful_u32_to, lawful_u32_where, lawful_u32_below, lawful_usize_to, lawful_u8_to, lawful_flag, lawful_float, lawful_u64_to}
use Rattle.formats.proofs.Theorems.{lawful_pair, lawful_array, lawful_struct, lawful_ranged, lawful_such}
use Rattle.rates.specs.Rates.{lowest, highest, listed}
use Rattle.store.specs.declared.renderer.Renderer714.{Renderer714}
use Rattle.store.specs.Singles.{FilterSingles}
use Rattle.store.specs.Fields.{longest, small_words, small_of}
use Rattle.store.specs.Fields.{source_format, element_format}
use Rattle.store.specs.Fields.{filter_format, payload_format, counts_format, tables_format, state_format, basics_format, small_format, hall_format}
pub use Rattle.store.specs.Entries.{lawful_source, lawful_block, lawful_track, lawful_head, lawful_element}
use Rattle.store.specs.Layout.{small_width}
use Rattle.store.specs.ValidBlocks.{related, small_part}

-- ---- the small part

pub lawful_filter : Lawful filter_format
lawful_filter =
    let f = lawful_float in
    lawful_ranged FilterSingles _
    (λ v h. (h.a1, (h.a2, (h.b0, (h.b1, (h.b2, (h.x1, (h.x2, (h.y1, h.y2)))))))))
    (λ v (a1, (a2, (b0, (b1, (b2, (x1, (x2, (y1, y2)))))))). record { a1 = a1; a2 = a2; b0 = b0; b1 = b1; b2 = b2; x1 = x1; x2 = x2; y1 = y1; y2 = y2 })
    (lawful_struct _ _ _ (λ v. refl) (λ y. refl)
    (lawful_pair float _ f (lawful_pair float _ f (lawful_pair float _ f (lawful_pair float _ f
    (lawful_pair float _ f (lawful_pair float _ f (lawful_pair float _ f (lawful_pair float _ f f)))))))))

lawful_payload : Lawful payload_format
lawful_payload = lawful_struct _ _ _ (λ p. refl) (λ n. refl) (lawful_u64_to longest (lit< tt))

pub lawful_counts : Lawful counts_format
lawful_counts =
    lawful_pair flag _ lawful_flag
    (lawful_pair payload_format _ lawful_payload
    (lawful_pair (usize_to 32) _ (lawful_usize_to 32 (lit< tt))
    (lawful_pair (usize_to 255) _ (lawful_usize_to 255 (lit< tt))
    (lawful_pair (usize_to 18) _ (lawful_usize_to 18 (lit< tt)) (lawful_usize_to 2 (lit< tt))))))

pub lawful_tables : Lawful tables_format
lawful_tables =
    lawful_pair (array 18 (u8_to 17)) _ (lawful_array (u8_to 17) (lawful_u8_to 17 (lit< tt)) 18)
    (lawful_pair (array 18 float) _ (lawful_array float lawful_float 18)
    (lawful_pair (array 16 source_format) _ (lawful_array source_format lawful_source 16) (lawful_array element_format lawful_element 2)))

pub lawful_state : Lawful state_format
lawful_state = lawful_struct _ _ _ (λ s. refl) (λ y. refl) (lawful_pair counts_format tables_format lawful_counts lawful_tables)

either : (a b : Bool) {n m : ℕ} → (T a → n ≤ m) → (T b → n ≤ m) → T (a || b) → n ≤ m
either true b p q h = p tt
either false b p q h = q h

rate_most : (n : ℕ) → T (eqb n 0 || listed n) → n ≤ highest
rate_most n = either (eqb n 0) (listed n) (λ h. let e = eqb→eq n 0 h in omega arith) (λ h. leb→le n highest (and_r (leb lowest n) (leb n highest) h))

pub lawful_basics : Lawful basics_format
lawful_basics =
    lawful_pair (u32_where (λ n. eqb n 0 || listed n)) _ (lawful_u32_where (λ n. eqb n 0 || listed n) (λ n h. let l = rate_most n h in omega arith))
    (lawful_pair (u32_below 64) _ (lawful_u32_below 64 (lit≤ tt))
    (lawful_pair (u64_to longest) _ (lawful_u64_to longest (lit< tt))
    (lawful_pair (u64_to longest) _ (lawful_u64_to longest (lit< tt))
    (lawful_pair float _ lawful_float (lawful_pair filter_format (u32_below 64) lawful_filter (lawful_u32_below 64 (lit≤ tt)))))))

pub lawful_small : Lawful small_format
lawful_small = lawful_struct _ _ _ (λ s. refl) (λ y. refl) (lawful_pair basics_format state_format lawful_basics lawful_state)

pub lawful_small_part : Lawful small_part
lawful_small_part = lawful_such related small_format lawful_small

pub lawful_hall : Lawful hall_format
lawful_hall = lawful_u32_to 3 (lit< tt)

-- ---- the whole

abbrev pub SmallFull : Renderer714 → Type 0
SmallFull s = small_part.In s

module _ (s : Renderer714) (h : SmallFull s) where
  pub small_long : length (small_words s) ≡ small_width
  unfolding small_words
  small_long = lawful_small.long s

  pub small_words_is : Words (small_words s)
  unfolding small_words
  small_words_is = lawful_small_part.words s h

  pub small_back : small_of (small_words s) ≡ s
  unfolding small_words small_of
  small_back = lawful_small_part.back s h (small_words s) 0 (stands_all (small_words s))
