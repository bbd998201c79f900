-- `bed_channel_position`: the table's rows are the places of `positions`.
use Rattle.std.proofs.Common.{rules, List, [], ◌∷◌, ap, ◌∙◌}
use lib.Ieee.{Float, nan, of_bits, neg, round}
use lib.ListN.{get_or}
use Rattle.std.specs.Prelude.{Option, unwrap_or}
use Rattle.std.proofs.Math.ListN.{get_or-map}
use Rattle.vectors.specs.declared.Vec3.{Vec3}
use Rattle.vectors.specs.Vectors.{vec3, zero_vec3}
use Rattle.beds.specs.Positions.{positions, bed_position}
use Rattle.beds.proofs.bed_channel_position.Goals as goal

abbrev row_of : Vec3 → List Float
row_of v = v.x ∷ v.y ∷ v.z ∷ []

abbrev placed : List Float → Vec3
placed p = vec3 (get_or p 0 nan) (get_or p 1 nan) (get_or p 2 nan)

pub returns : goal.returns
unfolding of_bits neg round positions bed_position
returns c =
    ap placed
    (c.unwrap_or.ensures ∙ ap (λ (r : Option (List Float)). unwrap_or r (row_of zero_vec3)) c.copied.ensures
    ∙ c.get.ensures.lookup.4 (search rules) (row_of zero_vec3)
    ∙ get_or-map row_of positions c.from.result zero_vec3)
    ∙ ap bed_position c.from.ensures
