use Rattle.hb_frag.proofs.Facts.CarvedPages.{carved_stays, carved_whole, carved_room}
use Rattle.hb_frag.proofs.laws.a_carved_leaf_joins_others_only_whole.Goals as goal

pub returns-clause-stays : goal.returns-clause-stays
returns-clause-stays c = λ path t a leaf area outer inner h at other heavy. carved_stays path t a leaf area outer inner at h other heavy

pub returns-clause-whole : goal.returns-clause-whole
returns-clause-whole c = λ path t a leaf area outer inner at light. carved_whole path t a leaf area outer inner at light

pub returns-clause-room : goal.returns-clause-room
returns-clause-room c = λ path t a leaf area outer inner capacity h at other room. carved_room path t a leaf area outer inner at capacity h other room
