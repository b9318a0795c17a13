-- The grammar of a call that is a file of its own. 02, Ticket 1: "one packed call without index (padded as a file)".
use Rattle.std.specs.Prelude.{ℕ}
use Rattle.patterns.specs.First.{Pattern}
use Rattle.fields.specs.Grammar.{Grammar, done, bind}
use Rattle.grammar.specs.Terms.{call_term}

unfoldable pub a_call : (ℕ → ℕ) → Grammar Pattern
a_call ar = bind (call_term ar) λ g. done g.term
