use Rattle.hbpi.proofs.TextPieces.{short_is_whole}
use Rattle.hbpi.proofs.starting.read_script.Goals as goal

pub returns-in-Ok-read_commands-clause-came : goal.returns-in-Ok-read_commands-clause-came
returns-in-Ok-read_commands-clause-came g c =
    let text = c.in-Ok.ensures.text in
    let facts = c.in-Ok-read_commands.ensures in
    record {
      came = record {
        text = c.as_slice.result.now;
        whole = short_is_whole _ _ c.as_slice.result.now (rw c.as_slice.ensures.value text.0) facts.short;
        says = facts.exact;
      };
      source = text.1;
      script = facts.script;
      actors = facts.actors;
    }
