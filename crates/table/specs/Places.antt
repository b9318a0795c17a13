-- The places of the work table. The three lists of begins, the words of three fillings and a comparison's first side lie in this order, so that
-- what lives longest lies lowest. A search for an index has the nodes of its call in the side's place, and its own words behind it.
use Rattle.std.specs.Prelude.{ℕ}

-- 01: "the work table has fewer than 8,192 64-bit numbers"
abbrev pub WORDS : ℕ
WORDS = 8192

-- where each rule begins; where each line's left begins, and where its right does
abbrev pub RULES : ℕ
RULES = 0

abbrev pub LEFTS : ℕ
LEFTS = 256

abbrev pub RIGHTS : ℕ
RIGHTS = 512

-- so many rules, and so many lines, have a word there
abbrev pub ROWS : ℕ
ROWS = 256

-- the 64 words of a filling that stays empty; of the line's own filling; of a use's
abbrev pub EMPTY : ℕ
EMPTY = 768

abbrev pub OWN : ℕ
OWN = 832

abbrev pub USED : ℕ
USED = 896

-- the first side of a comparison; the second has no place
abbrev pub FIRST : ℕ
FIRST = 1024

-- the words of a side, three for each of its nodes
abbrev pub SIDE : ℕ
SIDE = 3072

abbrev pub NODES : ℕ
NODES = 1024

-- where the term of each of a call's nodes ends
abbrev pub ENDS : ℕ
ENDS = 4096

-- the 64 words of bindings, one for each variable of a pattern: the call's node where its term begins; and how much of that node is used up
abbrev pub BOUND : ℕ
BOUND = 5120

abbrev pub OFF : ℕ
OFF = 5184
