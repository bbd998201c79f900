-- `panning::pan` meets its contract. Assumes nothing.
use mathlib.Core.Path.{◌≡◌, refl, sym, ap, subst, ◌∙◌}
use Prim.Native.Nat.{ℕ}
use lib.Ieee.{Float, of_bits}
use borrow.Author.Rules.{rules}
use Rattle.corners.specs.Axes.{place_among}
use Rattle.corners.specs.Table.{Position}
use Rattle.vectors.specs.declared.Vec3.{Vec3}
use Rattle.panning.specs.declared.Panned.{Panned}
use Rattle.panning.specs.Terms.{panned, extra}
use Rattle.panning.specs.Setup.{place_in, speakers_in, divisor_in}
use Rattle.panning.specs.Hall.{setup_of}
use Rattle.panning.proofs.Setup.{pans_at, few_there}
use Rattle.panning.proofs.Shared.{inside}
use Rattle.panning.proofs.Answers.{pan_none, pan_some, none_less, some_less}
use Rattle.panning.proofs.pan.Goals as goal

pub returns-then-gain : goal.returns-then-gain
unfolding of_bits
returns-then-gain c =
    let a = c.args in
    let s = setup_of a.hall.now in
    record { is = pan_none (place_in s) (speakers_in s.layout) (divisor_in s.layout) a.place a.gain a.size c.if-gain.true refl; less = none_less refl }

pub coefficients-requires : goal.coefficients-requires
coefficients-requires c =
    let h = c.args.hall.now in
    let p = c.args.place in
    let q : Position p = record { x = search (rules, c.well_formed); y = search (rules, c.well_formed); z = search (rules, c.well_formed) } in
    let f = c.corners-cube.ensures in
    (inside (pans_at (place_among h.places) h.layout h.known h.table p q) f (few_there h.layout), f)

pub returns : goal.returns
unfolding of_bits
returns c =
    let a = c.args in
    let h = a.hall.now in
    let p = a.place in
    let q : Position p = record { x = search (rules, c.well_formed); y = search (rules, c.well_formed); z = search (rules, c.well_formed) } in
    let f = c.corners-cube.ensures in
    let r : Panned = record { corners = c.channels.result; coefficients = c.coefficients.result; extra = c.extra.result } in
    record {
      is = subst (λ (sp : ℕ → Vec3). r ≡ panned sp (speakers_in h.layout) (divisor_in h.layout) p a.gain a.size) (sym h.placed)
          (pan_some (place_among h.places) (speakers_in h.layout) (divisor_in h.layout) p a.gain a.size c.if-gain.false f c.inner_gain.ensures c.coefficients.ensures
          c.channels.ensures (c.extra.ensures ∙ ap (λ (d : Float). extra d a.gain a.size) h.divided));
      less = some_less (inside (pans_at (place_among h.places) h.layout h.known h.table p q) f (few_there h.layout)) c.channels.ensures;
    }
