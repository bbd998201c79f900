-- `route_of`: each arm's range, number by number.
use Rattle.std.proofs.Common.{◌≡◌, refl, sym, ◌+◌, ◌-◌, ◌≤◌, length, arith}
use mathlib.Core.Logic.{⊎_elim}
use lib.ListN.{get_or-eq_default}
use Rattle.beds.specs.declared.Route.TheVariants.{Folded, Direct, Unsupported}
use Rattle.beds.specs.Routes.{routes, route_of}
use Rattle.beds.proofs.Range.{between}
use Rattle.beds.proofs.route_of.Goals as goal

pub returns-in-3 : goal.returns-in-3
unfolding route_of
returns-in-3 c = ⊎_elim (λ w. rw w) (λ w. rw w) c.in-3.is

pub returns-in-0-to-2 : goal.returns-in-0-to-2
unfolding route_of
returns-in-0-to-2 c = rw c.from.ensures (between (λ n. Direct n ≡ route_of n) 0 3 (refl, (refl, (refl, tt))) c.args.code (omega arith) (omega arith))

pub returns-in-4-to-5 : goal.returns-in-4-to-5
unfolding route_of
returns-in-4-to-5 c = rw c.from-in-4-to-5.ensures (between (λ n. Direct (n + 2) ≡ route_of n) 4 2 (refl, (refl, tt)) c.args.code (grind arith) (omega arith))

pub returns-in-7-to-8 : goal.returns-in-7-to-8
unfolding route_of
returns-in-7-to-8 c = rw c.from-in-7-to-8.ensures (between (λ n. Direct (n - 3) ≡ route_of n) 7 2 (refl, (refl, tt)) c.args.code (omega arith) (omega arith))

pub returns-in-9-to-10 : goal.returns-in-9-to-10
unfolding route_of
returns-in-9-to-10 c = rw c.from-in-9-to-10.ensures (between (λ n. Direct (n - 1) ≡ route_of n) 9 2 (refl, (refl, tt)) c.args.code (omega arith) (omega arith))

pub returns-in-13-to-14 : goal.returns-in-13-to-14
unfolding route_of
returns-in-13-to-14 c = rw c.from-in-13-to-14.ensures (between (λ n. Direct (n - 3) ≡ route_of n) 13 2 (refl, (refl, tt)) c.args.code (omega arith) (omega arith))

pub returns-in-11 : goal.returns-in-11
unfolding route_of
returns-in-11 c = between (λ n. Folded ≡ route_of n) 11 2 (refl, (refl, tt)) c.args.code (omega arith) (omega arith)

pub returns-in-11-2 : goal.returns-in-11-2
unfolding route_of
returns-in-11-2 c = between (λ n. Folded ≡ route_of n) 15 2 (refl, (refl, tt)) c.args.code (omega arith) (omega arith)

pub returns-in_default : goal.returns-in_default
unfolding route_of
returns-in_default c = between (λ n. Unsupported ≡ route_of n) 6 1 (refl, tt) c.args.code (omega arith) (omega arith)

pub returns-in_default-2 : goal.returns-in_default-2
unfolding route_of
returns-in_default-2 c =
    let h : length routes ≤ c.args.code = grind arith in
    sym (get_or-eq_default routes Unsupported h)
