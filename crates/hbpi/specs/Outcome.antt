-- How a run of the program ends, and what it leaves in the source and the sink.
use Rattle.std.specs.Prelude.{◌≡◌, ℕ, List, [], ◌++◌, take, drop, codes, Option, Some, None, Result}
use Rattle.std.specs.FinMap as map
use Rattle.std.specs.Fmt.{decimal}
use Rattle.hb_outside.specs.Calls.{SinkModel, Puts}
use Rattle.hb_outside.specs.declared.traits.Failed.{Failed}
use Rattle.hb_set.specs.Machine.{RecordSet}
use Rattle.hb_set.specs.Order.{IsLegalOrder, entries_of, order_of, Ran}
use Rattle.hb_set.specs.declared.scripts.Line.{Line}
use Rattle.hb_set.specs.declared.scripts.Answered.{Answered}
use Rattle.hb_text.specs.declared.rules.TextRule.{TextRule}
use Rattle.hb_text.specs.declared.rules.TextRule.TheVariants.{TooMany, LongLine, BadByte, BadSpacing, BadStep, BadSession, BadVerb, BadCount, BadNumber, TooLarge, EmptyBox, BadBody}
use Rattle.hbpi.specs.declared.statuses.Status.{Status}
use Rattle.hbpi.specs.declared.statuses.Status.TheVariants.{Done, Usage, BadText, SourceFault, SinkFault, DiskFault, Damaged, NoMemory, BadLayout, Small, Full, Spent}
use Rattle.hbpi.specs.declared.statuses.Damage.{Damage}
use Rattle.hbpi.specs.declared.statuses.Damage.TheVariants as damages
use Rattle.hb_restart.specs.declared.faults.Field.{Field}
use Rattle.hb_restart.specs.declared.faults.Field.TheVariants as fields

-- the name of a rule
abbrev pub rule_name : TextRule → List ℕ
rule_name TooMany = codes "TooMany"
rule_name LongLine = codes "LongLine"
rule_name BadByte = codes "BadByte"
rule_name BadSpacing = codes "BadSpacing"
rule_name BadStep = codes "BadStep"
rule_name BadSession = codes "BadSession"
rule_name BadVerb = codes "BadVerb"
rule_name BadCount = codes "BadCount"
rule_name BadNumber = codes "BadNumber"
rule_name TooLarge = codes "TooLarge"
rule_name EmptyBox = codes "EmptyBox"
rule_name BadBody = codes "BadBody"

-- the name of a field
abbrev pub field_name : Field → List ℕ
field_name fields.K = codes "K"
field_name fields.Pages = codes "PAGES"
field_name fields.Log = codes "LOG"
field_name fields.Dcap = codes "DCAP"
field_name fields.Icap = codes "ICAP"

-- what is wrong with a file
abbrev pub damage_text : Damage → List ℕ
damage_text damages.NoSuper = codes "no super"
damage_text (damages.BadGroup frame) = codes "bad group " ++ decimal frame
damage_text (damages.Rule page rule) = codes "damaged " ++ decimal page ++ codes " S" ++ decimal rule
damage_text (damages.Level page) = codes "damaged " ++ decimal page ++ codes " level"
damage_text (damages.Extent page) = codes "damaged " ++ decimal page ++ codes " extent"

-- the line that a status writes last
abbrev pub fault_line : Status → List ℕ
fault_line Done = []
fault_line Usage = codes "usage\n"
fault_line (BadText bad) = codes "bad text " ++ decimal bad.line ++ codes " " ++ rule_name bad.rule ++ codes "\n"
fault_line SourceFault = codes "source fault\n"
fault_line SinkFault = []
fault_line DiskFault = codes "disk fault\n"
fault_line (Damaged damage) = damage_text damage ++ codes "\n"
fault_line (BadLayout field value) = codes "bad layout " ++ field_name field ++ codes " " ++ decimal value ++ codes "\n"
fault_line (Small needed found) = codes "small " ++ decimal needed ++ codes " " ++ decimal found ++ codes "\n"
fault_line NoMemory = codes "no memory\n"
fault_line Full = codes "full\n"
fault_line Spent = codes "spent\n"

-- The line was put, whole or in front, and nobody is told which.
pub record GetsLine (before after : SinkModel) (line : List ℕ) : Type 0 where
  pub result : Result (Unit {0}) Failed
  pub put : Puts line result before after

-- The text that was read is what the source had left, up to 257,000,001 bytes, where the source tells.
unfoldable pub greatest_text : ℕ
greatest_text = 257000001

abbrev pub IsTextOf : Option (List ℕ) → Option (List ℕ) → List ℕ → Type 0
IsTextOf None after text = after ≡ None
IsTextOf (Some left) after text = (text ≡ take greatest_text left) × (after ≡ Some (drop greatest_text left))

-- It is all that the source had, and nothing is left in it.
abbrev pub IsWholeText : Option (List ℕ) → Option (List ℕ) → List ℕ → Type 0
IsWholeText None after text = after ≡ None
IsWholeText (Some left) after text = (text ≡ left) × (after ≡ Some [])

-- The lines were answered in text order, each as the record set machine answers it from the empty set on or for want
-- of memory, and those that the machine answered are a legal order.
pub record IsDryRun (lines : List Line) (answered : List Answered) (order : List ℕ) : Type 0 where
  pub set : RecordSet
  pub ran : Ran map.empty lines answered set
  pub legal : IsLegalOrder map.empty (entries_of lines answered)
  pub order_is : order ≡ order_of (entries_of lines answered)
