-- `terms::filling` meets its contract.
use Rattle.std.proofs.Common.{rules}
use Rattle.fields.specs.Kinds.{FieldKind as kind}
use Rattle.fields.proofs.Ranges.{from_to_bounded}
use Rattle.fields.proofs.Alongs.{seq_no, seq_at}
use Rattle.grammar.specs.Terms.{a_filling}
use Rattle.terms.proofs.filling.Goals as goal

pub returns-in_err-n : goal.returns-in_err-n
unfolding a_filling
returns-in_err-n g c = seq_no (c.take.ensures.comes _ _ (from_to_bounded kind.filling_count _ _)) _ c.in_err-n.was (search rules)

pub returns : goal.returns
unfolding a_filling
returns g c = seq_at _ (c.take.ensures.comes _ _ (from_to_bounded kind.filling_count _ _)) c.in_ok-n.was c.pairs.ensures
