-- Looks at pages one after the other, and what is said of the file and of a stop, seen from before.
use Rattle.std.proofs.Common.{◌∙◌, ap}
use Rattle.hb_disk.specs.Model.{DiskModel}
use Rattle.hb_disk.proofs.Facts.FaultLaws.{ReadsOnly-then}
use Rattle.hb_store.specs.Held.{StoreHeld}
use Rattle.hb_store.proofs.Facts.LookLaws.{LooksUp-as}
use Rattle.hb_map.specs.Mapping.{LooksThrough}
use Rattle.hb_store.specs.States.{StoreState}

-- one look more behind those that didn't fail
pub looks_then : {F G : Type 0} (d e f : DiskModel) (a b c : StoreHeld) → (F → ⊥) → LooksThrough F d e a b → LooksThrough G e f b c → LooksThrough G d f a c
looks_then d e f a b c good one two = record {
  looks = record { only = ReadsOnly-then d e f good one.looks.only two.looks.only; keeps = λ durable later keeps. two.looks.keeps durable later (one.looks.keeps durable later keeps) };
  rest = two.rest ∙ ap (λ (s : StoreState). record s { pages = c.state.pages }) one.rest;
  may_go = two.may_go;
}

pub looks_as : {F G : Type 0} (d e : DiskModel) (a b : StoreHeld) → (F → G) → (G → F) → LooksThrough F d e a b → LooksThrough G d e a b
looks_as d e a b to from one = record { looks = LooksUp-as d e a.state b.state to from one.looks; rest = one.rest; may_go = one.may_go }

-- one look more that was well, behind others
pub looks_on : {F : Type 0} (d e f : DiskModel) (a b c : StoreHeld) → (F → ⊥) → LooksThrough ⊥ d e a b → LooksThrough F e f b c → LooksThrough ⊥ d f a c
looks_on d e f a b c good one two = looks_as d f a c good (λ never. absurd never) (looks_then d e f a b c (λ never. never) one two)
