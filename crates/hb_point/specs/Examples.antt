-- Rows worked out by hand. A `line` is any line, and of what is read only what matters is given.
use Rattle.std.specs.Prelude.{◌≡◌, ℕ, List, [], ◌∷◌, Some, None}
use Rattle.hb_space.specs.declared.records.Record.{Record}
use Rattle.hb_frag.specs.declared.leaves.Leaf.TheVariants.{Records, Sibling}
use Rattle.hb_frag.specs.declared.pages.LivePage.{LivePage}
use Rattle.hb_frag.specs.declared.paths.Side.TheVariants.{Left}
use Rattle.hb_ops.specs.declared.leaf_cuts.LeafCut.{LeafCut}
use Rattle.hb_ops.specs.declared.operations.Op.TheVariants.{Put, Del, Extract}
use Rattle.hb_set.specs.declared.commands.Command.TheVariants.{Insert, Delete, Lookup}
use Rattle.hb_set.specs.declared.commands.Reply.TheVariants as replies
use Rattle.hb_set.specs.declared.scripts.Answered.{Answered}
use Rattle.hb_set.specs.declared.scripts.Line.{Line}
use Rattle.hb_activity.specs.declared.jobs.JobKind.TheVariants.{Post, Merge}
use Rattle.hb_activity.specs.declared.activities.Activity.TheVariants.{SessionSplit, SessionPut}
use Rattle.hb_activity.specs.Deeds.{does, moves_to, takes_effect, answers_now}
use Rattle.hb_activity.specs.OneDeed.{IsOnly}
use Rattle.hb_activity.specs.Sights.{Sight}
use Rattle.hb_frag.specs.Trees.{Tip, Cut}
use Rattle.hb_point.specs.SessionRows.{DoesThere, next_line}
use Rattle.hb_point.specs.SplitRows.{PutsInHalf, SplitsOrFull}
use Rattle.hb_space.specs.Boxes.{side_from, whole_area}

abbrev pub rec_at : List ℕ → ℕ → Record
rec_at point body = record { key = point; body = body ∷ [] }

-- A page of two attributes: below 50 two records, and from 50 on another page.
abbrev pub two_records : LivePage
two_records = record { level = 0; area = whole_area 2; frag = Cut 0 50 (Tip (Records (rec_at (10 ∷ 5 ∷ []) 1 ∷ rec_at (20 ∷ 5 ∷ []) 2 ∷ []))) (Tip (Sibling 7)) }

-- Pages of one attribute: one of five records, and one of six.
abbrev pub five_records : LivePage
five_records = record { level = 0; area = whole_area 1; frag = Tip (Records (rec_at (10 ∷ []) 1 ∷ rec_at (20 ∷ []) 2 ∷ rec_at (30 ∷ []) 3 ∷ rec_at (40 ∷ []) 4 ∷ rec_at (50 ∷ []) 5 ∷ [])) }

abbrev pub six_records : LivePage
six_records = record { level = 0; area = whole_area 1; frag = Tip (Records (rec_at (10 ∷ []) 1 ∷ rec_at (20 ∷ []) 2 ∷ rec_at (30 ∷ []) 3 ∷ rec_at (40 ∷ []) 4 ∷ rec_at (50 ∷ []) 5 ∷ rec_at (60 ∷ []) 6 ∷ [])) }

-- An insert of a point that is there, under another body. One of a point that isn't: where pages of records may weigh 6, the
-- page of two has room for it, that of five just so, and that of six has none; where they may weigh 32, that has room too.
pub record InsertsByHand (s : Sight) (line : Line) : Type 0 where
  pub there : IsOnly (DoesThere s line (Insert (rec_at (20 ∷ 5 ∷ []) 9)) 5 two_records) (takes_effect s.place line replies.Duplicate None [])
  pub room : s.meta.dcap ≡ 6 → IsOnly (DoesThere s line (Insert (rec_at (20 ∷ 6 ∷ []) 9)) 5 two_records) (takes_effect s.place line replies.Done (Some (Put 5 (rec_at (20 ∷ 6 ∷ []) 9))) [])
  pub last : s.meta.dcap ≡ 6 → IsOnly (DoesThere s line (Insert (rec_at (35 ∷ []) 9)) 5 five_records) (takes_effect s.place line replies.Done (Some (Put 5 (rec_at (35 ∷ []) 9))) [])
  pub full : s.meta.dcap ≡ 6 → IsOnly (DoesThere s line (Insert (rec_at (35 ∷ []) 9)) 5 six_records) (moves_to (SessionSplit line 5) [])
  pub wide : s.meta.dcap ≡ 32 → IsOnly (DoesThere s line (Insert (rec_at (35 ∷ []) 9)) 5 six_records) (takes_effect s.place line replies.Done (Some (Put 5 (rec_at (35 ∷ []) 9))) [])

-- A delete of a point that is there, where the page weighs 2 then; the last record but one, where it weighs 1, a quarter of
-- 6 or less; and a point that isn't there.
abbrev pub thin_page : LivePage
thin_page = record { level = 0; area = whole_area 1; frag = Tip (Records (rec_at (10 ∷ []) 1 ∷ rec_at (20 ∷ []) 2 ∷ [])) }

pub record DeletesByHand (s : Sight) (line : Line) : Type 0 where
  pub there : s.meta.dcap ≡ 6 → IsOnly (DoesThere s line (Delete (20 ∷ 5 ∷ [])) 5 two_records) (takes_effect s.place line replies.Done (Some (Del 5 (20 ∷ 5 ∷ []))) [])
  pub thin : s.meta.dcap ≡ 6 → IsOnly (DoesThere s line (Delete (20 ∷ [])) 5 thin_page)
      (takes_effect s.place line replies.Done (Some (Del 5 (20 ∷ []))) (record { kind = Merge; level = 1; point = 20 ∷ [] } ∷ []))
  pub absent : IsOnly (DoesThere s line (Delete (20 ∷ 6 ∷ [])) 5 two_records) (takes_effect s.place line replies.Absent None [])

-- A lookup gives the body of its point, where that is there.
pub record LookupsByHand (s : Sight) (line : Line) : Type 0 where
  pub there : IsOnly (DoesThere s line (Lookup (20 ∷ 5 ∷ [])) 5 two_records) (takes_effect s.place line (replies.Found (2 ∷ [])) None [])
  pub absent : IsOnly (DoesThere s line (Lookup (20 ∷ 6 ∷ [])) 5 two_records) (takes_effect s.place line replies.Missing None [])

-- The page of six is split where pages of records may weigh 6: at 40 each half has three records, and the left one leaves.
-- The head of the free chain is 9, and 4 is the one behind it. Where no page is free, the line is answered.
abbrev pub at_forty : LeafCut
at_forty = record { axis = 0; value = 40; side = Left }

pub record SplitsByHand (s : Sight) (line : Line) : Type 0 where
  pub free : s.page_at 5 ≡ Some six_records → s.meta.live ≡ 3 → s.meta.pages ≡ 9 → s.next ≡ Some (9, 4) → IsOnly (SplitsOrFull s line 5)
      (does (SessionPut line 5 9) (Extract 5 9 [] (at_forty ∷ []) 4) (record { kind = Post; level = 1; point = 0 ∷ [] } ∷ []))
  pub none_free : s.meta.live ≡ 9 → s.meta.pages ≡ 9 → IsOnly (SplitsOrFull s line 5) (answers_now line.number replies.Full)

-- Two halves: page 5 gave what is from 40 on to page 9.
abbrev pub kept_half : LivePage
kept_half = record { level = 0; area = whole_area 1; frag = Cut 0 40 (Tip (Records (rec_at (10 ∷ []) 1 ∷ []))) (Tip (Sibling 9)) }

abbrev pub given_half : LivePage
given_half = record { level = 0; area = side_from (whole_area 1) 0 40; frag = Tip (Records (rec_at (50 ∷ []) 5 ∷ [])) }

-- A record of 39 goes into page 5, and one of 40 into page 9.
pub record PutsByHand (s : Sight) (line : Line) : Type 0 where
  pub below : s.page_at 5 ≡ Some kept_half → s.page_at 9 ≡ Some given_half → line.command ≡ Insert (rec_at (39 ∷ []) 2) →
      IsOnly (PutsInHalf s line 5 9) (takes_effect s.place line replies.Done (Some (Put 5 (rec_at (39 ∷ []) 2))) [])
  pub from : s.page_at 5 ≡ Some kept_half → s.page_at 9 ≡ Some given_half → line.command ≡ Insert (rec_at (40 ∷ []) 2) →
      IsOnly (PutsInHalf s line 5 9) (takes_effect s.place line replies.Done (Some (Put 9 (rec_at (40 ∷ []) 2))) [])

-- a line that asks for a point, and its answer
abbrev pub asks : ℕ → ℕ → ℕ → Line
asks number session value = record { number = number; session = session; command = Lookup (value ∷ []) }

abbrev pub none_at : ℕ → Answered
none_at number = record { line = number; reply = replies.Missing; at = 0 }

-- two lines of session 1, and one of session 2 between them
abbrev pub three_lines : List Line
three_lines = asks 1 1 5 ∷ asks 2 2 6 ∷ asks 3 1 7 ∷ []

-- A session takes its first line that has no answer, whatever other sessions have.
pub record TakesLinesInOrder : Type 0 where
  pub first : next_line 1 [] three_lines ≡ Some (asks 1 1 5)
  pub other : next_line 2 [] three_lines ≡ Some (asks 2 2 6)
  pub none : next_line 3 [] three_lines ≡ None
  pub second : next_line 1 (none_at 1 ∷ []) three_lines ≡ Some (asks 3 1 7)
  pub not_mine : next_line 1 (none_at 2 ∷ []) three_lines ≡ Some (asks 1 1 5)
  pub done : next_line 1 (none_at 3 ∷ none_at 1 ∷ []) three_lines ≡ None
