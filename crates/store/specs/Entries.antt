-- A reader may skip this file: the formats of what stands in tables are lawful, as `Entry` asks of each of its types. Assumes nothing.
use mathlib.Core.Path.{refl}
use lib.Dec.{lit<}
use Rattle.formats.specs.Lawful.{Lawful}
use Rattle.formats.specs.Format.{u8_to, flag, three_flags, float, usize_to, u64_to, u32_to, ◌⊗◌, array}
use Rattle.formats.proofs.Theorems.{lawful_u32_to, lawful_usize_to, lawful_u8_to, lawful_flag, lawful_three_flags, lawful_u64_to}
pub use Rattle.formats.proofs.Theorems.{lawful_float}
use Rattle.formats.proofs.Theorems.{lawful_vec}
use Rattle.formats.proofs.Theorems.{lawful_pair, lawful_array, lawful_struct, lawful_ranged}
use Rattle.store.specs.Singles.{SourceSingles, TrackSingles, Brief}
use Rattle.store.specs.Fields.{vec_format, source_format, block_format, track_format, head_format, element_format}

pub lawful_code : Lawful (u8_to 17)
lawful_code = lawful_u8_to 17 (lit< tt)

pub lawful_source : Lawful source_format
lawful_source =
    lawful_ranged SourceSingles _ (λ s h. (h.gain, (h.size, (h.place, (tt, h.send)))))
    (λ s h. record { gain = h.0; size = h.1.0; place = h.1.1.0; send = h.1.1.1.1 })
    (lawful_struct _ _ _ (λ s. refl) (λ y. refl)
    (lawful_pair float _ lawful_float (lawful_pair float _ lawful_float (lawful_pair vec_format _ lawful_vec (lawful_pair three_flags float lawful_three_flags lawful_float)))))

pub lawful_block : Lawful block_format
lawful_block =
    let n = lawful_u32_to 2097152 (lit< tt) in
    lawful_ranged Brief _ (λ b h. (h.offset, (h.ramp, tt))) (λ b h. record { offset = h.0; ramp = h.1.0 })
    (lawful_struct _ _ _ (λ b. refl) (λ y. refl) (lawful_pair (u32_to 2097152) (u32_to 2097152 ⊗ flag) n (lawful_pair (u32_to 2097152) flag n lawful_flag)))

pub lawful_track : Lawful track_format
lawful_track =
    lawful_ranged TrackSingles _ (λ t h. (tt, h)) (λ t h. h.1) (lawful_struct _ _ _ (λ t. refl) (λ y. refl) (lawful_pair flag vec_format lawful_flag lawful_vec))

pub lawful_head : Lawful head_format
lawful_head =
    lawful_pair (usize_to 8) (usize_to 16 ⊗ u64_to 140737489403904) (lawful_usize_to 8 (lit< tt))
    (lawful_pair (usize_to 16) (u64_to 140737489403904) (lawful_usize_to 16 (lit< tt)) (lawful_u64_to 140737489403904 (lit< tt)))

pub lawful_element : Lawful element_format
lawful_element =
    lawful_struct _ _ _ (λ e. refl) (λ y. refl)
    (lawful_pair head_format (array 8 block_format ⊗ array 16 track_format) lawful_head
    (lawful_pair (array 8 block_format) (array 16 track_format) (lawful_array block_format lawful_block 8) (lawful_array track_format lawful_track 16)))
