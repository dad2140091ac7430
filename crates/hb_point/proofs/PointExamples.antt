-- The rows of inserts, deletes and lookups that were worked out by hand.
use Rattle.std.proofs.Common.{◌≡◌, ℕ, zero, suc, ◌<◌, List, [], ◌∷◌, Some, refl, sym, ap, ◌∙◌, subst, arith}
use Rattle.std.specs.List.{slice_get}
use Rattle.hb_space.specs.declared.records.Record.{Record}
use Rattle.hb_frag.specs.declared.pages.LivePage.{LivePage}
use Rattle.hb_set.specs.declared.scripts.Line.{Line}
use Rattle.hb_ops.specs.declared.operations.Op.TheVariants.{Del}
use Rattle.hb_set.specs.declared.commands.Command.TheVariants.{Delete}
use Rattle.hb_set.specs.declared.commands.Reply.TheVariants as replies
use Rattle.hb_activity.specs.declared.jobs.Job.{Job}
use Rattle.hb_activity.specs.Deeds.{takes_effect}
use Rattle.hb_activity.specs.OneDeed.{IsOnly}
use Rattle.hb_point.specs.SessionRows.{DoesThere, merges_due}
use Rattle.hb_activity.specs.Sights.{Sight}
use Rattle.hb_frag.specs.Leaves.{weight_of}
use Rattle.hb_ops.specs.Recording.{put_page}
use Rattle.hb_ops.specs.Standing.{StandsNot, StandsThere}
use Rattle.hb_ops.proofs.Facts.Opened.{same_records}
use Rattle.hb_point.proofs.Facts.OneCommand.{only_deletes, only_found, only_inserts, only_misses, only_nothing, only_splits, only_twin}
use Rattle.hb_point.specs.Examples.{DeletesByHand, InsertsByHand, LookupsByHand, five_records, rec_at, six_records, thin_page, two_records}
use Rattle.std.proofs.lemmas.List.Elements.{All-from_recursion}

-- points that differ in a value
other_first : (a b : ℕ) (p q : List ℕ) → a < b → a ∷ p ≡ b ∷ q → ⊥
other_first a b p q less is = let same : a ≡ b = cc in omega (arith, less, same)

more_first : (a b : ℕ) (p q : List ℕ) → b < a → a ∷ p ≡ b ∷ q → ⊥
more_first a b p q less is = let same : a ≡ b = cc in omega (arith, less, same)

other_second : (a b c d : ℕ) → b < d → a ∷ b ∷ [] ≡ c ∷ d ∷ [] → ⊥
other_second a b c d less is = let same : b ≡ d = cc in omega (arith, less, same)

abbrev Lacks : List ℕ → Record → Type 0
Lacks p r = r.key ≡ p → ⊥

abbrev of_two : List Record
of_two = rec_at (10 ∷ 5 ∷ []) 1 ∷ rec_at (20 ∷ 5 ∷ []) 2 ∷ []

twenty_there : StandsThere two_records (20 ∷ 5 ∷ []) (rec_at (20 ∷ 5 ∷ []) 2)
twenty_there = record { records = of_two; area = _; leaf = refl; place = 1; among = refl; key = refl }

twenty_six_absent : StandsNot two_records (20 ∷ 6 ∷ [])
twenty_six_absent = record { records = of_two; area = _; leaf = refl; lack = All-from_recursion (Lacks (20 ∷ 6 ∷ [])) of_two (other_first 10 20 _ _ (omega arith), (other_second 20 5 20 6 (omega arith), tt)) }

abbrev of_five : List Record
of_five = rec_at (10 ∷ []) 1 ∷ rec_at (20 ∷ []) 2 ∷ rec_at (30 ∷ []) 3 ∷ rec_at (40 ∷ []) 4 ∷ rec_at (50 ∷ []) 5 ∷ []

abbrev pub of_six : List Record
of_six = rec_at (10 ∷ []) 1 ∷ rec_at (20 ∷ []) 2 ∷ rec_at (30 ∷ []) 3 ∷ rec_at (40 ∷ []) 4 ∷ rec_at (50 ∷ []) 5 ∷ rec_at (60 ∷ []) 6 ∷ []

absent_of_five : StandsNot five_records (35 ∷ [])
absent_of_five = record { records = of_five; area = _; leaf = refl; lack = All-from_recursion (Lacks (35 ∷ [])) of_five (other_first 10 35 _ _ (omega arith), (other_first 20 35 _ _ (omega arith), (other_first 30 35 _ _ (omega arith), (more_first 40 35 _ _ (omega arith), (more_first 50 35 _ _ (omega arith), tt))))) }

absent_of_six : StandsNot six_records (35 ∷ [])
absent_of_six = record { records = of_six; area = _; leaf = refl; lack = All-from_recursion (Lacks (35 ∷ [])) of_six (other_first 10 35 _ _ (omega arith), (other_first 20 35 _ _ (omega arith), (other_first 30 35 _ _ (omega arith), (more_first 40 35 _ _ (omega arith), (more_first 50 35 _ _ (omega arith), (more_first 60 35 _ _ (omega arith), tt)))))) }

thin_there : StandsThere thin_page (20 ∷ []) (rec_at (20 ∷ []) 2)
thin_there = record { records = rec_at (10 ∷ []) 1 ∷ rec_at (20 ∷ []) 2 ∷ []; area = _; leaf = refl; place = 1; among = refl; key = refl }

-- what is at a place of the two records, and of this point, is the second one
second_of_two : (place : ℕ) (other : Record) → slice_get of_two place ≡ Some other → other.key ≡ 20 ∷ 5 ∷ [] → other ≡ rec_at (20 ∷ 5 ∷ []) 2
second_of_two zero other is key = let same : rec_at (10 ∷ 5 ∷ []) 1 ≡ other = cc in absurd (other_first 10 20 _ _ (omega arith) (ap (λ (r : Record). r.key) same ∙ key))
second_of_two (suc zero) other is key = let same : rec_at (20 ∷ 5 ∷ []) 2 ≡ other = cc in sym same
second_of_two (suc (suc place)) other is key = absurd (let no : ⊥ = cc in no)

one_twenty : (other : Record) → StandsThere two_records (20 ∷ 5 ∷ []) other → other ≡ rec_at (20 ∷ 5 ∷ []) 2
one_twenty other there =
    let records = same_records two_records (20 ∷ 5 ∷ []) there.records of_two there.area _ there.leaf refl in
    second_of_two there.place other (ap (λ (l : List Record). slice_get l there.place) (sym records) ∙ there.among) there.key

pub inserts_by_hand : (s : Sight) (line : Line) → InsertsByHand s line
inserts_by_hand s line = record {
  there = only_twin s line 5 two_records (rec_at (20 ∷ 5 ∷ []) 9) (rec_at (20 ∷ 5 ∷ []) 2) twenty_there;
  room = λ six. only_inserts s line 5 two_records (rec_at (20 ∷ 6 ∷ []) 9) twenty_six_absent (let w : weight_of (put_page (rec_at (20 ∷ 6 ∷ []) 9) two_records).frag ≡ 4 = refl in omega (arith, w, six));
  last = λ six. only_inserts s line 5 five_records (rec_at (35 ∷ []) 9) absent_of_five (let w : weight_of (put_page (rec_at (35 ∷ []) 9) five_records).frag ≡ 6 = refl in omega (arith, w, six));
  full = λ six. only_splits s line 5 six_records (rec_at (35 ∷ []) 9) refl absent_of_six (let w : weight_of (put_page (rec_at (35 ∷ []) 9) six_records).frag ≡ 7 = refl in omega (arith, w, six));
  wide = λ wide. only_inserts s line 5 six_records (rec_at (35 ∷ []) 9) absent_of_six (let w : weight_of (put_page (rec_at (35 ∷ []) 9) six_records).frag ≡ 7 = refl in omega (arith, w, wide));
}

deletes : (s : Sight) (line : Line) (page : LivePage) (p : List ℕ) (found : Record) (adds : List Job) → StandsThere page p found → merges_due page p s.meta.dcap ≡ adds
    → IsOnly (DoesThere s line (Delete p) 5 page) (takes_effect s.place line replies.Done (Some (Del 5 p)) adds)
deletes s line page p found adds there due = subst (λ (jobs : List Job). IsOnly (DoesThere s line (Delete p) 5 page) (takes_effect s.place line replies.Done (Some (Del 5 p)) jobs)) due (only_deletes s line 5 page p found there)

pub deletes_by_hand : (s : Sight) (line : Line) → DeletesByHand s line
deletes_by_hand s line = record {
  there = λ six. deletes s line two_records (20 ∷ 5 ∷ []) (rec_at (20 ∷ 5 ∷ []) 2) [] twenty_there (ap (merges_due two_records (20 ∷ 5 ∷ [])) six);
  thin = λ six. deletes s line thin_page (20 ∷ []) (rec_at (20 ∷ []) 2) _ thin_there (ap (merges_due thin_page (20 ∷ [])) six);
  absent = only_nothing s line 5 two_records (20 ∷ 6 ∷ []) twenty_six_absent;
}

pub lookups_by_hand : (s : Sight) (line : Line) → LookupsByHand s line
lookups_by_hand s line = record {
  there = only_found s line 5 two_records (20 ∷ 5 ∷ []) (rec_at (20 ∷ 5 ∷ []) 2) twenty_there one_twenty;
  absent = only_misses s line 5 two_records (20 ∷ 6 ∷ []) twenty_six_absent;
}
