-- What a computed example over bytes unfolds, under one name: `unfolding compute`.
use mathlib.Core.List.{flat_map}
use Rattle.answers.specs.Carried.{of_a_field, of_a_part, carried}
use Rattle.patterns.proofs.Compute.{compute as compute-trees}
use Rattle.bits.specs.Bits.{bit_at, spelled, bits_at, read_field}
use Rattle.bits.specs.Packed.{bits_of, field_bits, groups, bytes_of, packed}
use Rattle.fields.specs.Source.{packed_field, in_reach, field_at}
use Rattle.fields.specs.Kinds.{between}
use Rattle.fields.specs.Grammar.{bind, field, outcome, trace}
use Rattle.grammar.specs.Terms.{a_symbol, a_unary, an_exponent, args_of, a_variable, an_applied, a_raise, a_raised, a_node, a_term, any_term, root_term, a_pair, pairs_of, a_filling}
use Rattle.grammar.specs.Books.{arity_in, arities_of, a_signature, roots_of, a_rule_of, a_rule, rules_of, a_rule_list, a_book}
use Rattle.grammar.specs.Certificates.{a_right_if, a_right, a_claim, an_index, an_instance, a_use, uses_of, a_last_if, a_last, a_stop, a_stopped, a_stop_at, an_unfold, a_fall, a_descent, a_kind, a_line_of, a_line, lines_of, a_pace, a_closed, a_closing, a_certificate_of, a_certificate}
use Rattle.grammar.specs.Limits.{call_counts}
use Rattle.grammar.specs.Listing.{if_any, pair_fields, filling_fields, arity_fields, signature_fields, rule_fields, book_fields, claim_fields, use_fields, stop_number, stop_fields, kind_fields, kind_number, line_fields, closing_fields, certificate_fields, term_fields, terms_fields}
use Rattle.layout.specs.Files.{ends_at, open_bytes, certificate_of, open_book, open_certificate}
use Rattle.verdicts.specs.Judging.{judging_certificate, judging_files, judging}
use Rattle.verdicts.specs.Program.{book_length, judging_framed, judging_input}
use Rattle.verdicts.specs.Decimal.{decimal_within, decimal}
use Rattle.verdicts.specs.Printing.{accept_word, refuse_word, spaced, sentence, refusal_line, line_of}
use Rattle.verdicts.specs.Cases.{True}

unfoldable pub compute : Unit {0}
unfolding flat_map compute-trees bit_at spelled bits_at read_field bits_of field_bits groups bytes_of packed packed_field in_reach field_at bind between field outcome trace a_symbol a_unary an_exponent args_of a_variable an_applied a_raise a_raised a_node a_term any_term root_term a_pair pairs_of a_filling arity_in arities_of a_signature roots_of a_rule_of a_rule rules_of a_rule_list a_book a_right_if a_right a_claim an_index an_instance a_use uses_of a_last_if a_last a_stop a_stopped a_stop_at an_unfold a_fall a_descent a_kind a_line_of a_line lines_of a_pace a_closed a_closing a_certificate_of a_certificate call_counts if_any pair_fields filling_fields arity_fields signature_fields rule_fields book_fields claim_fields use_fields stop_number stop_fields kind_fields kind_number line_fields closing_fields certificate_fields term_fields terms_fields ends_at open_bytes certificate_of open_book open_certificate judging_certificate judging_files judging book_length judging_framed judging_input decimal_within decimal accept_word refuse_word spaced sentence of_a_field of_a_part carried refusal_line line_of True
compute = tt
