use Rattle.std.proofs.Common.{◌≡◌, ◌≢◌, ℕ, ◌≤◌, ◌∙◌, ◌∷◌, List, get_or, Some, IfSome, IsSome, length, ap, is_err, arith}
use Rattle.hb_disk.specs.Model.{Torn, overwritten}
use Rattle.hb_disk.specs.Calls.{open_gate}
use Rattle.hb_lemmas.proofs.Options.{at_value, some_value, was_some}
use Rattle.hb_frag.specs.declared.pages.Page.{Page}
use Rattle.hb_frag.specs.Grammar.{SpellsPage}
use Rattle.hb_super.specs.Superblocks.{IsNewest, body_bytes}
use Rattle.hb_store.specs.Keeps.{IsFresh}
use Rattle.hb_layout.specs.Offsets.{file_size}
use Rattle.hb_restart.specs.Creation.{IsLaidOut}
use Rattle.hb_restart.specs.NewFiles.{lone}
use Rattle.hb_disk.proofs.Facts.RewriteLaws.{Rewrites-as, Rewrites-torn, Rewrites-weaker}
use Rattle.hb_disk.proofs.Facts.TornLaws.{Torn-wider}
use Rattle.hb_restart.proofs.Made.{on_ok_three, made_fresh}
use Rattle.hb_restart.proofs.creation.write_file.Goals as goal
use Rattle.hb_super.proofs.Facts.BodyLaws.{frame_long}

pub lay_out-requires : goal.lay_out-requires
lay_out-requires g c = record { room = c.requires.room; some = omega arith; most = c.requires.layout.some_pages }

pub returns-in_err-lay_out-clause-wrote : goal.returns-in_err-lay_out-clause-wrote
returns-in_err-lay_out-clause-wrote g c =
    (Rewrites-as c.lay_out.result c.from_residual.result (Torn 0 (file_size c.args.meta.now)) 5 9 (g.D.Device.model c.args.disk.now) (g.D.Device.model c.lay_out.new.disk) (λ f. c.from_residual.ensures.0) (λ f. ap is_err c.in_err-lay_out.was) (omega arith) c.lay_out.ensures.wrote)

pub write_first_super-requires-clause-closed : goal.write_first_super-requires-clause-closed
write_first_super-requires-clause-closed g c = λ tells x image opened.
    let d = g.D.Device.model c.args.disk.now in
    let one = g.D.Device.model c.lay_out.new.disk in
    let before = some_value d.told (was_some d.told one.told c.lay_out.ensures.wrote.became.silent tells) in
    let laid = at_value d.told (λ b. (e : List ℕ) × (one.told ≡ Some e) × IsLaidOut e c.args.meta.now c.args.page.now) before.0 before.1 c.in_ok-lay_out.ensures.laid in
    let same : x ≡ laid.0 = at_value one.told (λ b. (e : List ℕ) → one.Image e → e ≡ b) laid.0 laid.1 c.in_ok-lay_out.ensures.lasts x image in
    let zero_is : get_or x 0 0 ≡ 0 = ap (λ (l : List ℕ). get_or l 0 0) same ∙ laid.2.places.first in
    let open_is : get_or x 0 0 ≡ 165 = opened in
    absurd (omega (arith, zero_is, open_is))

pub returns-clause-fresh : goal.returns-clause-fresh
returns-clause-fresh g c =
    let d = g.D.Device.model c.args.disk.now in
    let one = g.D.Device.model c.lay_out.new.disk in
    let new = g.D.Device.model c.write_first_super.new.disk in
    let meta = c.args.meta.now in
    let page = c.args.page.now in
    let frame = open_gate ∷ body_bytes 0 meta in
    let is_disk = g.met.D.Device.is_disk c.write_first_super.new.disk in
    let is_one = g.met.D.Device.is_disk c.lay_out.new.disk in
    on_ok_three c.write_first_super.result
    (IfSome one.told (λ b. new.told ≡ Some (overwritten b 0 (open_gate ∷ body_bytes 0 meta))))
    (IfSome new.told (λ b. (e : List ℕ) → new.Image e → e ≡ b))
    (IfSome one.told (λ b. get_or b 4096 0 ≢ open_gate → IfSome new.told (λ e. IsNewest e 0 meta)))
    (IsSome d.told → (p : Page) → SpellsPage page p → IsFresh new 0 meta (lone meta p))
    (λ written durable newest tells p spells.
    let before = some_value d.told tells in
    let laid = at_value d.told (λ b. (e : List ℕ) × (one.told ≡ Some e) × IsLaidOut e meta page) before.0 before.1 c.in_ok-lay_out.ensures.laid in
    let fits : file_size meta ≤ length laid.0 = omega (arith, c.requires.room, c.lay_out.ensures.wrote.became.size, is_one.long laid.0 (is_one.as_read laid.0 laid.1)) in
    let closed : get_or laid.0 4096 0 ≢ open_gate = λ opened. let zero_is : get_or laid.0 4096 0 ≡ 0 = laid.2.places.second in let open_is : get_or laid.0 4096 0 ≡ 165 = opened in absurd (omega (arith, zero_is, open_is)) in
    made_fresh new is_disk meta page laid.0 frame (frame_long 0 meta) fits c.requires.one.1 laid.2
    (at_value one.told (λ b. new.told ≡ Some (overwritten b 0 (open_gate ∷ body_bytes 0 meta))) laid.0 laid.1 written)
    (at_value one.told (λ b. get_or b 4096 0 ≢ open_gate → IfSome new.told (λ e. IsNewest e 0 meta)) laid.0 laid.1 newest closed)
    durable p spells)
    c.write_first_super.ensures.wrote.written c.write_first_super.ensures.wrote.lasts c.write_first_super.ensures.newest

pub returns-clause-wrote : goal.returns-clause-wrote
returns-clause-wrote g c =
    let d = g.D.Device.model c.args.disk.now in
    let one = g.D.Device.model c.lay_out.new.disk in
    let new = g.D.Device.model c.write_first_super.new.disk in
    let n = file_size c.args.meta.now in
    Rewrites-torn c.lay_out.result c.write_first_super.result 0 n 5 4 d one new c.in_ok-lay_out.field-0 c.in_ok-lay_out.was c.lay_out.ensures.wrote
    (Rewrites-weaker c.write_first_super.result (Torn 0 41) (Torn 0 n) 4 one new (λ b x torn. Torn-wider 0 41 0 n b x (omega arith) (omega arith) torn) c.write_first_super.ensures.wrote.run)
