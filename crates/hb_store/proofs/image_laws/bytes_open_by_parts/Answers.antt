use Rattle.hb_store.proofs.Facts.StoreLaws.{opens_by_parts}
use Rattle.hb_store.proofs.image_laws.bytes_open_by_parts.Goals as goal

pub returns : goal.returns
returns c = opens_by_parts
