-- `layout::walks::book_by` meets its contract.
use mathlib.Core.Path.{ap, ◌∙◌}
use Rattle.fields.proofs.Copies.{copier_ran, copier_keeps}
use Rattle.fields.specs.Source.{start}
use Rattle.layout.proofs.Copying.{agrees_packed, agrees_listed, counted_book}
use Rattle.layout.proofs.walks.book_by.Goals as goal

pub returns-then-file : goal.returns-then-file
returns-then-file c =
    let known = agrees_listed c.args.file.now (c.requires ∙ ap start c.if-file.true) in
    let walk = c.book-found.ensures.walked.comes known in
    record {
      lent = copier_keeps walk;
      walked = rw c.ended.ensures (copier_ran walk);
      counted = counted_book _ (c.book-found.ensures.counted.counted known);
    }

pub returns : goal.returns
returns c =
    let known = agrees_packed c.args.file.now (c.requires ∙ ap start c.if-file.false) in
    let walk = c.book-found-2.ensures.walked.comes known in
    record {
      lent = copier_keeps walk;
      walked = rw c.ended-2.ensures (copier_ran walk);
      counted = counted_book _ (c.book-found-2.ensures.counted.counted known);
    }
