-- A reader may skip this file: a value that may be absent, as the probes take it: a flag and a number. Assumes nothing.
use Rattle.std.specs.Prelude.{Bool, cond, Float, Option, Some, None}

abbrev pub maybe_where : Bool → Float → Option Float
maybe_where present x = cond present (Some x) None
