-- Rows worked out by hand, at a page of two attributes. A `line` is any line.
use Rattle.std.specs.Prelude.{ℕ, [], ◌∷◌, None}
use Rattle.hb_space.specs.declared.records.Record.{Record}
use Rattle.hb_frag.specs.declared.leaves.Leaf.TheVariants.{Records, Sibling}
use Rattle.hb_frag.specs.declared.pages.LivePage.{LivePage}
use Rattle.hb_set.specs.declared.commands.Reply.TheVariants.{Within}
use Rattle.hb_set.specs.declared.scripts.Line.{Line}
use Rattle.hb_activity.specs.declared.activities.Activity.TheVariants.{SessionWalk}
use Rattle.hb_activity.specs.Deeds.{moves_to, takes_effect}
use Rattle.hb_activity.specs.OneDeed.{IsOnly}
use Rattle.hb_activity.specs.Sights.{Sight}
use Rattle.hb_frag.specs.Trees.{Tip, Cut}
use Rattle.hb_search.specs.SearchRows.{Gathers}
use Rattle.hb_space.specs.Boxes.{Area, whole_area}

abbrev pub rec_of_two : ℕ → ℕ → Record
rec_of_two first second = record { key = first ∷ second ∷ []; body = 7 ∷ [] }

-- from one value to another in the first attribute, and so in the second one
abbrev pub box_of : ℕ → ℕ → ℕ → ℕ → Area
box_of low high least greatest = record { lo = low ∷ least ∷ []; hi = high ∷ greatest ∷ [] }

-- Four records below 50 in the first attribute and below 31 in the second one. What is above them in the second one page 8 has,
-- and the rest page 7.
abbrev pub corner_page : LivePage
corner_page = record { level = 0; area = whole_area 2; frag = Cut 0 50 (Cut 1 31 (Tip (Records (rec_of_two 5 5 ∷ rec_of_two 25 12 ∷ rec_of_two 30 9 ∷ rec_of_two 40 20 ∷ []))) (Tip (Sibling 8))) (Tip (Sibling 7)) }

-- A search for 20 to 99 and 10 to 99, at the corner of that box: two of the records lie in it. What of it is from 50 on in the first
-- attribute remains, and behind that what is above 30 in the second one, which is next. Another box that remains stays in front.
-- With a box that lies in the leaf, the last one, the search takes effect, and its records are in the order of their points.
pub record SearchesByHand (s : Sight) (line : Line) : Type 0 where
  pub first : IsOnly (Gathers s line (box_of 20 99 10 99 ∷ []) [] corner_page (20 ∷ 10 ∷ []))
      (moves_to (SessionWalk line None (box_of 50 99 10 99 ∷ box_of 20 49 31 99 ∷ []) (rec_of_two 25 12 ∷ rec_of_two 40 20 ∷ [])) [])
  pub behind : IsOnly (Gathers s line (box_of 60 70 80 90 ∷ box_of 20 99 10 30 ∷ []) (rec_of_two 65 85 ∷ []) corner_page (20 ∷ 10 ∷ []))
      (moves_to (SessionWalk line None (box_of 60 70 80 90 ∷ box_of 50 99 10 30 ∷ []) (rec_of_two 65 85 ∷ rec_of_two 25 12 ∷ rec_of_two 40 20 ∷ [])) [])
  pub last : IsOnly (Gathers s line (box_of 20 49 10 30 ∷ []) (rec_of_two 60 11 ∷ []) corner_page (20 ∷ 10 ∷ []))
      (takes_effect s.place line (Within (rec_of_two 25 12 ∷ rec_of_two 40 20 ∷ rec_of_two 60 11 ∷ [])) None [])
