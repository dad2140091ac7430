use Rattle.std.proofs.Common.{◌≡◌, ◌≤◌, length, sym, subst, ap, ◌∙◌, arith}
use Rattle.std.proofs.lemmas.Result.{on_ok_weaker}
use Rattle.std.specs.Prelude.{IfOk}
use Rattle.hb_log_codec.specs.Groups.{FitsGroup, Logged, group_bytes}
use Rattle.hb_store.specs.Calls.{read_here}
use Rattle.hb_store.specs.Held.{StoreHeld}
use Rattle.hb_store.specs.Making.{group_here}
use Rattle.hb_store.specs.States.{IsMemory, in_memory, is_in_log}
use Rattle.hb_store.proofs.Facts.Changed.{limits_of}
use Rattle.hb_store.proofs.Framed.{page_seen}
use Rattle.hb_store.proofs.Facts.Grouped.{fits_group, if_both}
use Rattle.hb_store.proofs.Held.{group_seen}
use Rattle.hb_store.proofs.memory.Memory.group.Goals as goal

pub group_for-requires-clause-spelled : goal.group_for-requires-clause-spelled
group_for-requires-clause-spelled c = c.self.invariant.spelled

pub group_for-requires-clause-parts : goal.group_for-requires-clause-parts
group_for-requires-clause-parts c =
    let st = c.args.self.now.state in
    let op = c.args.op.now in
    let is : IsMemory st = subst (λ (h : StoreHeld). IsMemory h.state) c.self.view_is c.self.invariant.memory in
    c.what_is_made_can_be_written.ensures.operations.fits (record { meta = st.meta; page = in_memory st }) op (limits_of st.turn st.meta is.stands) is.good c.requires.allowed

pub returns-clause-bytes : goal.returns-clause-bytes
returns-clause-bytes c =
    let st = c.args.self.now.state in
    let m = c.self.inside in
    let same = group_seen m.pool m.in_log st (λ q. sym (page_seen m.pool q) ∙ ap (λ (h : StoreHeld). in_memory h.state q) c.self.view_is) (ap (λ (h : StoreHeld). h.state.in_log) c.self.view_is) c.args.op.now in
    subst (λ (l : Logged). IfOk c.group_for.result (λ group. group.items ≡ group_bytes l)) same c.group_for.ensures.bytes

pub returns-clause-fits : goal.returns-clause-fits
returns-clause-fits c =
    let st = c.args.self.now.state in
    let op = c.args.op.now in
    let is : IsMemory st = subst (λ (h : StoreHeld). IsMemory h.state) c.self.view_is c.self.invariant.memory in
    on_ok_weaker c.group_for.result (λ fits. fits_group (in_memory st) (is_in_log st) st.turn st.meta op (read_here st op 0) (read_here st op 1) (read_here st op 2) is.stands is.good c.requires.allowed (fits st.meta.k c.requires.points)) c.group_for.ensures.op

pub returns-clause-short : goal.returns-clause-short
returns-clause-short c =
    let st = c.args.self.now.state in
    let is : IsMemory st = subst (λ (h : StoreHeld). IsMemory h.state) c.self.view_is c.self.invariant.memory in
    let logged = group_here st c.args.op.now in
    if_both c.group_for.result (FitsGroup st.meta.k logged) (λ group. group.items ≡ group_bytes logged) (λ group. length group.items ≤ 16384)
    (λ fits group is_bytes. omega (arith, ap length is_bytes, c.groups_are_short.ensures.short st.meta.k logged is.stands.layout.few_attributes fits))
    (returns-clause-fits c) (returns-clause-bytes c)
