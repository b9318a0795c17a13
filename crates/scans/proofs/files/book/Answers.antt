-- `scans::files::book` meets its contract.
use Rattle.scans.specs.Glance.{first_bit}
use Rattle.scans.proofs.Scanners.{scanner_on, scanner_no}
use Rattle.scans.proofs.Whole.{agrees, counted_book}
use Rattle.scans.proofs.files.book.Goals as goal

pub returns-in-Ok : goal.returns-in-Ok
returns-in-Ok c = record {
  walked = scanner_on (c.book.ensures.walked.comes (agrees (record { s = c.args.s; cursor = first_bit }))) c.in-Ok.is;
  counted = counted_book (record { s = c.args.s; cursor = first_bit }) (c.book.ensures.counted.counted (agrees (record { s = c.args.s; cursor = first_bit })));
}

pub returns-in-Err : goal.returns-in-Err
returns-in-Err c = record {
  walked = scanner_no (c.book.ensures.walked.comes (agrees (record { s = c.args.s; cursor = first_bit }))) c.in-Err.is;
  counted = counted_book (record { s = c.args.s; cursor = first_bit }) (c.book.ensures.counted.counted (agrees (record { s = c.args.s; cursor = first_bit })));
}
