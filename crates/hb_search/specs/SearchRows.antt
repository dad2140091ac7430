-- The row of a search, at a page whose leaf at the point of its walk has records.
use Rattle.std.specs.Prelude.{◌≡◌, ℕ, List, [], ◌∷◌, ◌++◌, Some, None, AllPairs}
use Rattle.std.specs.List.Sorted.{IsPermutation}
use Rattle.hb_space.specs.declared.records.Record.{Record}
use Rattle.hb_frag.specs.declared.leaves.Leaf.TheVariants.{Records}
use Rattle.hb_frag.specs.declared.pages.LivePage.{LivePage}
use Rattle.hb_set.specs.declared.commands.Reply.TheVariants as replies
use Rattle.hb_set.specs.declared.scripts.Line.{Line}
use Rattle.hb_activity.specs.declared.activities.Activity.TheVariants.{SessionWalk}
use Rattle.hb_activity.specs.Deeds.{Deed, moves_to, takes_effect}
use Rattle.hb_activity.specs.Sights.{Sight}
use Rattle.hb_frag.specs.Leaves.{leaf_at}
use Rattle.hb_frag.specs.Rules.{Precedes}
use Rattle.hb_space.specs.Boxes.{Area, common_area, pieces_outside}
use Rattle.hb_view.specs.Within.{records_within}

-- A search at a leaf of records takes those of the box at hand, and has what of this lies outside the leaf's box before
-- it, the last piece first. With no box left its records are put in the order of their points, and it takes effect.
abbrev pub SearchGoesOn : Sight → Line → List Area → List Record → Deed → Type 0
SearchGoesOn s line [] found deed = (ordered : List Record) × IsPermutation found ordered × AllPairs Precedes ordered × (deed ≡ takes_effect s.place line (replies.Within ordered) None [])
SearchGoesOn s line (area ∷ rest) found deed = deed ≡ moves_to (SessionWalk line None (area ∷ rest) found) []

pub record Gathers (s : Sight) (line : Line) (rest : List Area) (found : List Record) (page : LivePage) (p : List ℕ) (deed : Deed) : Type 0 where
  pub front : List Area
  pub at_hand : Area
  pub boxes : rest ≡ front ++ at_hand ∷ []
  pub records : List Record
  pub area : Area
  pub leaf : leaf_at page p ≡ Some (record { leaf = Records records; area = area })
  pub goes : SearchGoesOn s line (front ++ pieces_outside at_hand (common_area at_hand area)) (found ++ records_within at_hand records) deed
