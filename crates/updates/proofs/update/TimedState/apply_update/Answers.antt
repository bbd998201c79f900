-- `apply_update`: the state from its parts. Assumes nothing.
use Rattle.updates.specs.Applied.{next_gains, next_sources, applied}
use Rattle.updates.proofs.update.TimedState.apply_update.Goals as goal

pub returns : goal.returns
unfolding next_gains next_sources applied
returns c =
    let whole = (rw c.unwrap.ensures at c.as_mut_array.ensures.cases).same in
    let work = rw whole at c.apply_elements.ensures in
    let last = c.dynamic.ensures in
    let now = c.dynamic-2.ensures in
    let counts = c.of-counts.ensures in
    let header = c.header-header.ensures in
    record {
      state = rw (work.states, c.next_codes.ensures, c.kept_or.ensures, c.kept_or-2.ensures, last, now, counts, header);
      infos = rw (work.infos, last, now, counts, header);
    }
