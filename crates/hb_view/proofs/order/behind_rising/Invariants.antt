use Rattle.std.proofs.Common.{◌≡◌, ◌↔◌, ◌-◌, IsSome, None}
use Rattle.hb_page_codec.specs.ReadingFields.{records_at}
use Rattle.hb_view.specs.Lists.{records_there, after_there}
use Rattle.hb_view.specs.Walks.{RiseFrom}
use Rattle.hb_view.proofs.order.behind_rising.Given as goal

-- the records that are left rise exactly where all do
abbrev pub invariant-loop : goal.invariant-loop
invariant-loop l = record {
  there : IsSome (records_at l.list.k.number (l.list.count - l.counter) l.rest);
  after : after_there l.list.k.number (l.list.count - l.counter) l.rest ≡ after_there l.list.k.number l.list.count l.list.first.now;
  same : RiseFrom l.bounds l.last (records_there l.list.k.number (l.list.count - l.counter) l.rest) ↔ RiseFrom l.bounds None (records_there l.list.k.number l.list.count l.list.first.now);
}
