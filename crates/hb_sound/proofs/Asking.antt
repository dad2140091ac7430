-- Calls that ask a source for pages, one after another.
use Rattle.std.proofs.Common.{◌∙◌, ℕ, subst}
use Rattle.hb_outside.specs.Calls.{Counts}
use Rattle.hb_sound.specs.Asking.{Asks, PagesModel}

-- behind calls of which none failed, a call that may fail so
pub asks_on : {S : Type 0} (model : S → PagesModel) (may_become : S → S → Type 0) (failed : Type 0) (first then last : S)
    → ((one two three : S) → may_become one two → may_become two three → may_become one three)
    → Asks model may_become ⊥ first then → Asks model may_become failed then last → Asks model may_become failed first last
asks_on model may_become failed first then last on one two =
    let Q : ℕ → Type 0 = λ n. Counts failed n (model last).faults in
    record {
      stays = two.stays ∙ one.stays;
      counts = subst Q (one.counts.no_fault (λ never. never)) two.counts;
      asked = on first then last one.asked two.asked;
    }

-- what failed is said in other words
pub asks_as : {S : Type 0} (model : S → PagesModel) (may_become : S → S → Type 0) (failed other : Type 0) (old new : S) → (failed → other) → (other → failed)
    → Asks model may_become failed old new → Asks model may_become other old new
asks_as model may_become failed other old new to from asks = record {
  stays = asks.stays;
  counts = record {
    cause = λ o. asks.counts.cause (from o);
    no_fault = λ never. asks.counts.no_fault (λ f. never (to f));
    later = asks.counts.later;
  };
  asked = asks.asked;
}
