use Rattle.std.proofs.lemmas.Result.{on_ok_weaker}
use Rattle.hb_store.specs.CommittedHere.{CommitsHere}
use Rattle.hb_store.proofs.Committed.{keeps_made, room_made}
use Rattle.hb_store.proofs.store.Store.commit.Goals as goal

pub commit-requires : goal.commit-requires
commit-requires g c = record {
  ready = c.requires.ready;
  can = record { points = c.requires.points; allowed = c.requires.allowed; boxes = c.requires.boxes };
  place = c.requires.place;
  marks = c.requires.marks;
}

pub invariant_of-self : goal.invariant_of-self
invariant_of-self g c =
    record { room = room_made c.commit.result (g.D.Device.model c.args.self.now.disk).size c.args.self.now.memory c.commit.new.self c.args.op c.args.mark c.args.self.now.room c.commit.ensures.done c.commit.ensures.kept }

pub returns-clause-commits : goal.returns-clause-commits
returns-clause-commits g c = on_ok_weaker c.commit.result (λ (h : CommitsHere c.args.op c.args.mark c.args.self.now.memory c.commit.new.self). h.commits) c.commit.ensures.done

pub returns-clause-group : goal.returns-clause-group
returns-clause-group g c = on_ok_weaker c.commit.result (λ (h : CommitsHere c.args.op c.args.mark c.args.self.now.memory c.commit.new.self). h.group) c.commit.ensures.done

pub returns-clause-uses : goal.returns-clause-uses
returns-clause-uses g c = on_ok_weaker c.commit.result (λ (h : CommitsHere c.args.op c.args.mark c.args.self.now.memory c.commit.new.self). h.uses) c.commit.ensures.done

pub returns-clause-stays : goal.returns-clause-stays
returns-clause-stays g c = on_ok_weaker c.commit.result (λ (h : CommitsHere c.args.op c.args.mark c.args.self.now.memory c.commit.new.self). h.stays) c.commit.ensures.done

pub returns-clause-keeps : goal.returns-clause-keeps
returns-clause-keeps g c = λ durable later keeps.
    keeps_made c.commit.result (g.D.Device.model c.args.self.now.disk) (g.met.D.Device.is_disk c.args.self.now.disk) c.args.self.now.memory c.commit.new.self durable later c.args.op c.args.mark
    c.requires.running keeps c.requires.allowed (c.requires.licensed durable later keeps) c.commit.ensures.done
