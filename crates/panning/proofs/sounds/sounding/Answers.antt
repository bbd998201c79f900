-- `panning::sounds::sounding` meets its contract. Assumes nothing.
use mathlib.Core.Path.{◌≡◌, sym, subst}
use Prim.Native.Nat.{ℕ, ◌+◌}
use lib.Ieee.{of_bits}
use borrow.Author.Rules.{rules}
use Rattle.vectors.specs.declared.Vec3.{Vec3}
use Rattle.corners.specs.Axes.{place_among}
use Rattle.corners.specs.Table.{Position}
use Rattle.corners.specs.Choice.{0·0, 1·0}
use Rattle.panning.specs.Terms.{terms, panned}
use Rattle.panning.specs.Setup.{speakers_in, divisor_in}
use Rattle.panning.specs.Sounding.{terms_bits}
use Rattle.panning.proofs.Setup.{pans_at, few_there}
use Rattle.panning.proofs.Shared.{inside}
use Rattle.panning.proofs.SoundingBits.{added, both_layers}
use Rattle.panning.proofs.sounds.sounding.Goals as goal

pub shares_at-s-requires : goal.shares_at-s-requires
shares_at-s-requires c =
    let h = c.args.hall.now in
    let p = c.args.place in
    let q : Position p = record { x = search (rules, c.well_formed); y = search (rules, c.well_formed); z = search (rules, c.well_formed) } in
    let f = c.corners-cube.ensures in
    (inside (pans_at (place_among h.places) h.layout h.known h.table p q) f (few_there h.layout), f)

pub layer_bits-requires : goal.layer_bits-requires
layer_bits-requires c =
    let h = c.args.hall.now in
    let p = c.args.place in
    let q : Position p = record { x = search (rules, c.well_formed); y = search (rules, c.well_formed); z = search (rules, c.well_formed) } in
    (inside (pans_at (place_among h.places) h.layout h.known h.table p q) c.corners-cube.ensures (few_there h.layout)).bottom

pub layer_bits-requires-2 : goal.layer_bits-requires-2
layer_bits-requires-2 c =
    let h = c.args.hall.now in
    let p = c.args.place in
    let q : Position p = record { x = search (rules, c.well_formed); y = search (rules, c.well_formed); z = search (rules, c.well_formed) } in
    (inside (pans_at (place_among h.places) h.layout h.known h.table p q) c.corners-cube.ensures (few_there h.layout)).top

pub returns : goal.returns
unfolding of_bits
returns c =
    let h = c.args.hall.now in
    let p = c.args.place in
    let q : Position p = record { x = search (rules, c.well_formed); y = search (rules, c.well_formed); z = search (rules, c.well_formed) } in
    let a = pans_at (place_among h.places) h.layout h.known h.table p q in
    subst (λ (sp : ℕ → Vec3). c.layer_bits.result + c.layer_bits-2.result ≡ terms_bits (terms (speakers_in h.layout) (panned sp (speakers_in h.layout) (divisor_in h.layout) p 1·0 0·0)))
    (sym h.placed)
    (added c.layer_bits.ensures.is c.layer_bits-2.ensures.is (sym (both_layers a c.corners-cube.ensures c.shares_at-s.ensures)))
