-- What an update says, as functions of its numbers: element e, block b, object o. Assumes nothing.
use Rattle.std.specs.Prelude.{ℕ, ◌+◌, ◌*◌, List}
use Rattle.fields.specs.declared.block.Block.{Block}
use Rattle.fields.specs.declared.object.Info.{Info}
use Rattle.fields.specs.Update.{objects, bed_or_isf_of, beds, elements, code}
use Rattle.fields.specs.Block.{blocks}
use Rattle.fields.specs.Raised.{raised_of}
use Rattle.fields.specs.ObjectInfos.{stored_info}
use Rattle.records.specs.Laid.{block_at, object_at, element_at}

pub record Element : Type 0 where
  pub blocks : ℕ
  pub block : ℕ → Block ℕ
  pub info : ℕ → ℕ → Info

-- offsets and ramps are plus 2 ^ 20
pub record Update : Type 0 where
  pub objects : ℕ
  pub isf : ℕ
  pub beds : ℕ
  pub elements : ℕ
  pub code : ℕ → ℕ
  pub element : ℕ → Element

-- the element at record p of the metadata
abbrev pub element_said : List ℕ → ℕ → Element
element_said m p = record { blocks = blocks m p; block = λ b. raised_of m (block_at p b); info = λ o b. stored_info m (object_at m p (o * blocks m p + b)) }

-- the update at record u
abbrev pub update_of : List ℕ → ℕ → Update
update_of m u = record { objects = objects m u; isf = bed_or_isf_of m u; beds = beds m u; elements = elements m u; code = code m u; element = λ e. element_said m (element_at m u e) }
