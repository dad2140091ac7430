-- Groups of an operation on records, with the image of its page or without it: their bytes in three parts.
use Rattle.std.specs.Prelude.{◌≡◌, ℕ, List, [], ◌∷◌, ◌++◌, Option, Some, None}
use Rattle.hb_lemmas.specs.Numbers.{big_endian}
use Rattle.hb_frag.specs.declared.pages.Page.{Page}
use Rattle.hb_frag.specs.Grammar.{SpellsPage}
use Rattle.hb_ops.specs.declared.operations.Op.{Op}
use Rattle.hb_log_codec.specs.Groups.{group_bytes, op_bytes}

-- what stands in front of the bytes of a group's one page: how many page images it has, and the number of this page
abbrev pub front_bytes : Option ℕ → List ℕ
front_bytes None = 0 ∷ []
front_bytes (Some page) = 1 ∷ big_endian 4 page

-- A group is its front, the bytes of its page, where it has an image of one, and its operation.
pub record GroupsHaveParts : Type 0 where
  pub bare : (op : Op) → group_bytes (record { images = []; op = op }) ≡ front_bytes None ++ [] ++ op_bytes op
  pub imaged : (id : ℕ) (bytes : List ℕ) (page : Page) (op : Op) → SpellsPage bytes page → group_bytes (record { images = (id, page) ∷ []; op = op }) ≡ front_bytes (Some id) ++ bytes ++ op_bytes op
