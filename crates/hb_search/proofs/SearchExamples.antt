-- The rows of searches that were worked out by hand.
use Rattle.std.proofs.Common.{List, [], ◌∷◌, refl}
use Rattle.std.proofs.lemmas.List.Sorted.{IsPermutation-append_comm}
use Rattle.hb_space.specs.declared.records.Record.{Record}
use Rattle.hb_set.specs.declared.scripts.Line.{Line}
use Rattle.hb_activity.specs.Deeds.{Deed}
use Rattle.hb_activity.specs.OneDeed.{IsOnly}
use Rattle.hb_activity.specs.Sights.{Sight}
use Rattle.hb_frag.proofs.Facts.RisingRecords.{rising}
use Rattle.hb_search.proofs.Facts.OneSearch.{searches_have_one_deed}
use Rattle.hb_search.specs.Examples.{SearchesByHand, box_of, corner_page, rec_of_two}
use Rattle.hb_search.specs.SearchRows.{Gathers}
use Rattle.hb_space.specs.Boxes.{Area}

abbrev of_four : List Record
of_four = rec_of_two 5 5 ∷ rec_of_two 25 12 ∷ rec_of_two 30 9 ∷ rec_of_two 40 20 ∷ []

abbrev leaf_area : Area
leaf_area = box_of 0 49 0 30

only_this : (s : Sight) (line : Line) (rest : List Area) (found : List Record) (deed : Deed) → Gathers s line rest found corner_page (20 ∷ 10 ∷ []) deed → IsOnly (Gathers s line rest found corner_page (20 ∷ 10 ∷ [])) deed
only_this s line rest found deed row = record { done = row; only = λ other again. searches_have_one_deed s line rest found corner_page (20 ∷ 10 ∷ []) other deed again row }

pub searches_by_hand : (s : Sight) (line : Line) → SearchesByHand s line
searches_by_hand s line = record {
  first = only_this s line _ _ _ (record { front = []; at_hand = box_of 20 99 10 99; boxes = refl; records = of_four; area = leaf_area; leaf = refl; goes = refl });
  behind = only_this s line _ _ _ (record { front = box_of 60 70 80 90 ∷ []; at_hand = box_of 20 99 10 30; boxes = refl; records = of_four; area = leaf_area; leaf = refl; goes = refl });
  last = only_this s line _ _ _ (record {
    front = [];
    at_hand = box_of 20 49 10 30;
    boxes = refl;
    records = of_four;
    area = leaf_area;
    leaf = refl;
    goes = (rec_of_two 25 12 ∷ rec_of_two 40 20 ∷ rec_of_two 60 11 ∷ [], IsPermutation-append_comm (rec_of_two 60 11 ∷ []) (rec_of_two 25 12 ∷ rec_of_two 40 20 ∷ []), rising (rec_of_two 25 12 ∷ rec_of_two 40 20 ∷ rec_of_two 60 11 ∷ []) ((refl, (refl, tt)), ((refl, tt), (tt, tt))), refl);
  });
}
