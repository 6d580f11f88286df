use mathlib.Core.Path.{sym}
use lib.Seq.{set_out}
use Rattle.pack_scan.proofs.note.Goals as goal

pub returns-else-k-list : goal.returns-else-k-list
returns-else-k-list c = sym (set_out _ _ _ c.if-k-list.false)
