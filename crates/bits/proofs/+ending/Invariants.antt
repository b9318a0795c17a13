use Rattle.bits.proofs.+ending.Given as goal

-- proposed from what the function passes where it calls itself
abbrev pub decreases-ending : goal.decreases-ending
decreases-ending l = l.n
