use Rattle.std.proofs.Common.{ℕ, ◌-◌, List, IsSome, Option}
use Rattle.hb_page_codec.specs.ReadingFields.{records_at}
use Rattle.hb_view.specs.Lists.{records_there}
use Rattle.hb_view.specs.Views.{FindsAmong}
use Rattle.hb_view.proofs.lists.body_among.Given as goal

-- what is found among the records that are left is what is found among all
abbrev pub invariant-loop : goal.invariant-loop
invariant-loop l = record {
  there : IsSome (records_at l.list.k.number (l.list.count - l.counter) l.rest);
  same : (body : Option (List ℕ)) → FindsAmong l.p (records_there l.list.k.number (l.list.count - l.counter) l.rest) body → FindsAmong l.p (records_there l.list.k.number l.list.count l.list.first.now) body;
}
