-- The fields of a node that one view holds, and what its head comes to.
use Rattle.std.specs.Prelude.{Ok, Err}
use Prim.Native.Nat.{ℕ, ◌+◌, ◌-◌, ◌/◌, ◌%◌, ◌^◌, ◌<◌, ◌≤◌}
use mathlib.Core.Path.{◌≡◌, refl, ap, ◌∙◌, subst}
use mathlib.Core.Logic.{◌≢◌}
use mathlib.Core.List.{List}
use mathlib.Core.Option.{some}
use native.Mathlib.Omega.{arith}
use borrow.Author.Tests.{eq-eqb, ne_eqb, le-leb, lt-leb}
use Rattle.bits.specs.Bits.{bits_at, room_of}
use Rattle.bits.specs.View.{Views}
use Rattle.bits.specs.declared.Cursor.{Cursor}
use Rattle.fields.specs.Source.{packed_field}
use Rattle.fields.specs.Kinds.{any, applied, node, test, between}
use Rattle.fields.specs.Kinds.{FieldKind as kind}
use Rattle.fields.specs.Grammar.{Grammar}
use Rattle.fields.proofs.Ranges.{between_low, between_high, between_ok}
use Rattle.grammar.specs.Terms.{Grown, args_of, a_symbol, a_variable, an_applied, a_raised, a_node}
use Rattle.terms.specs.Values.{left_of, left_of_all}
use Rattle.terms.proofs.Nodes.{node_variable, node_applied, node_raised}
use Rattle.scans.specs.Glance.{Scan}
use Rattle.terms.specs.declared.heads.Head.TheVariants.{Leaf, Applied}
use Rattle.scans.specs.Glance.{Scans}
use Rattle.scans.specs.Headings.{Found, Heading, SymbolAt, PowerAt, NodeAt}
use Rattle.scans.specs.Headings.{Heading as heading}
use Rattle.scans.proofs.Seqs.{seq_no, seq_on, seq_at, seq_last, scan_done}
use Rattle.scans.proofs.Taking.{field_past, field_refused, field_in, packed_past, packed_in}

-- ---- a field in a view

pub at_bit : {n m : ℕ} → n ≡ m → ◌≡◌ {A = Cursor} (record { at = n }) (record { at = m })
at_bit e = λ i. record { at = e i }

pub view_field : (s : List ℕ) {at x : ℕ} → Views s at x → (o w : ℕ) → w ≤ 16 → o + w ≤ 56 → at + (o + w) ≤ room_of s
    → packed_field s w (at + o) ≡ Ok (x / 2 ^ (64 - o - w) % 2 ^ w)
view_field s {at} view o w h k r = packed_in s w (at + o) h (omega arith) (view.field o w k)

-- ---- a symbol

module _ (ar : ℕ → ℕ) {x at left : ℕ} where
  pub symbol_past : left < 10 → SymbolAt ar x at left (Err (3, record { at = at + 2 }))
  unfolding an_applied a_symbol
  symbol_past h = record {
    told = λ s view e term rest.
        heading.refused (seq_no (field_past s kind.symbol (applied ar) _ {val = λ v. v} refl (packed_past s 8 (at + 2) (omega arith))) _ refl);
  }

  module _ {n : ℕ} (found : n ≡ ar (x / 2 ^ 54 % 256)) (room : 10 ≤ left) where
    refused : test (applied ar) (x / 2 ^ 54 % 256) ≡ some 4 → SymbolAt ar x at left (Err (4, record { at = at + 2 }))
    unfolding an_applied a_symbol
    refused t = record {
      told = λ s view e term rest.
          heading.refused
          (seq_no
          (field_refused s kind.symbol (applied ar) _ {val = λ v. v} refl (x / 2 ^ 54 % 256)
          (view_field s view 2 8 (omega arith) (omega arith) (omega arith)) 4 t) _ refl);
    }

    pub symbol_unary : n ≡ 1 → SymbolAt ar x at left (Err (4, record { at = at + 2 }))
    symbol_unary h = refused (rw (← found, eq-eqb n 1 h))

    pub symbol_missing : n ≢ 1 → 8 < n → SymbolAt ar x at left (Err (4, record { at = at + 2 }))
    symbol_missing h k = refused (rw (← found, ne_eqb n 1 h, lt-leb n 8 k))

    pub symbol_in : n ≢ 1 → n ≤ 8 → SymbolAt ar x at left (Ok (Applied n, record { at = at + 10 }))
    unfolding an_applied a_symbol
    symbol_in h k = record {
      told = λ s view e term rest.
          heading.applied k
          (λ y args.
          seq_at _
          (field_in s kind.symbol (applied ar) _ {val = λ v. v} refl (x / 2 ^ 54 % 256)
          (view_field s view 2 8 (omega arith) (omega arith) (omega arith)) (rw (← found, ne_eqb n 1 h, le-leb n 8 k)) refl
          (at_bit {n = at + 10} (omega arith)))
          refl (seq_last _ (λ g. refl) (subst (λ j. Scans s (args_of (term 256) j rest) (record { at = at + 10 }) left_of_all y) found args)));
    }

-- ---- the head of a node, by its tag

-- what p comes to, q comes to: so does what stands behind its head
heading_in : {s : List ℕ} {p q : Grammar Grown} {c d : Cursor} {term : ℕ → ℕ → Grammar Grown} {rest : ℕ} {r : Found}
    → ((x : Scan) → Scans s p c left_of x → Scans s q d left_of x) → Heading s p c term rest r → Heading s q d term rest r
heading_in h (heading.refused k) = heading.refused (h _ k)
heading_in h (heading.variable k) = heading.variable (h _ k)
heading_in h (heading.applied n k) = heading.applied n (λ x y. h x (k x y))
heading_in h (heading.raised k) = heading.raised (λ x y. h x (k x y))

the_tag : (s : List ℕ) (c : Cursor) {room x : ℕ} → room ≡ room_of s → Views s c.at x → c.at + 2 ≤ room → packed_field s 2 c.at ≡ Ok (x / 2 ^ 62 % 4)
the_tag s c known view inside =
    packed_in s 2 c.at (omega arith) (omega arith) (view.field 0 2 (omega arith) ∙ ap (λ n. bits_at s n 2) (omega arith))

-- `room` is how many bits there are
module _ {s : List ℕ} {ar : ℕ → ℕ} {end least above room : ℕ} {c : Cursor} (known : room ≡ room_of s) where
  pub node_past : room < c.at + 2 → NodeAt s ar end least above c (Err (3, c))
  node_past h = record {
    told = λ left some term.
        heading.refused (seq_no (field_past s kind.tag (node least left) c {val = λ v. v} (ne_eqb left 0 some) (packed_past s 2 c.at (omega arith))) _ refl);
  }

  module _ {x : ℕ} (view : Views s c.at x) (inside : c.at + 2 ≤ room) where
    outside : between least 3 4 (x / 2 ^ 62 % 4) ≡ some 4 → NodeAt s ar end least above c (Err (4, c))
    outside t = record {
      told = λ left some term.
          heading.refused
          (seq_no
          (field_refused s kind.tag (node least left) c {val = λ v. v} (ne_eqb left 0 some) (x / 2 ^ 62 % 4) (the_tag s c known view inside) 4
          (rw (ne_eqb left 0 some) t)) _ refl);
    }

    pub node_low : x / 2 ^ 62 % 4 < least → NodeAt s ar end least above c (Err (4, c))
    node_low h = outside (between_low least 3 4 (x / 2 ^ 62 % 4) h)

    pub node_three : least ≤ x / 2 ^ 62 % 4 → 3 ≤ x / 2 ^ 62 % 4 → NodeAt s ar end least above c (Err (4, c))
    node_three h k = outside (between_high least 3 4 (x / 2 ^ 62 % 4) h k)

    -- the tag is passed, and p is what it says comes behind it
    behind : (p : ℕ → (ℕ → ℕ → Grammar Grown) → Grammar Grown) {r : Found} → least ≤ x / 2 ^ 62 % 4 → x / 2 ^ 62 % 4 < 3
        → ((left : ℕ) (term : ℕ → ℕ → Grammar Grown) → a_node term ar end above left (x / 2 ^ 62 % 4) ≡ p left term)
        → ((left : ℕ) (term : ℕ → ℕ → Grammar Grown) → Heading s (p left term) (record { at = c.at + 2 }) term left r)
        → NodeAt s ar end least above c r
    behind p h k q g = record {
      told = λ left some term.
          heading_in
          (λ y z.
          seq_at _
          (field_in s kind.tag (node least left) c {val = λ v. v} (ne_eqb left 0 some) (x / 2 ^ 62 % 4) (the_tag s c known view inside)
          (rw (ne_eqb left 0 some) (between_ok least 3 4 (x / 2 ^ 62 % 4) h k)) refl refl)
          refl (rw (q (left - 1) term) z))
          (g (left - 1) term);
    }

    module _ (h : least ≤ x / 2 ^ 62 % 4) where
      pub node_leaf_past : x / 2 ^ 62 % 4 ≡ 0 → room < c.at + 8 → NodeAt s ar end least above c (Err (3, record { at = c.at + 2 }))
      unfolding a_variable
      node_leaf_past k o =
          behind (λ left term. a_variable left) h (omega arith) (λ left term. node_variable term ar end above left _ k)
          (λ left term.
          heading.refused (seq_no (field_past s kind.variable any _ {val = λ v. v} refl (packed_past s 6 (c.at + 2) (omega arith))) _ refl))

      pub node_leaf : x / 2 ^ 62 % 4 ≡ 0 → c.at + 8 ≤ room → NodeAt s ar end least above c (Ok (Leaf, record { at = c.at + 8 }))
      unfolding a_variable
      node_leaf k o =
          behind (λ left term. a_variable left) h (omega arith) (λ left term. node_variable term ar end above left _ k)
          (λ left term.
          heading.variable
          (seq_on
          (field_in s kind.variable any _ {val = λ v. v} refl _ (view_field s view 2 6 (omega arith) (omega arith) (omega arith)) refl refl
          (at_bit {n = c.at + 8} (omega arith)))
          _ refl (λ v q. scan_done _ _)))

      module _ {left : ℕ} {r : Found} where
        pub node_symbol : x / 2 ^ 62 % 4 ≡ 1 → SymbolAt ar x c.at left r → c.at + left ≡ room → NodeAt s ar end least above c r
        node_symbol k S all =
            behind (λ rest term. an_applied term ar rest) h (omega arith) (λ rest term. node_applied term ar end above rest _ k)
            (λ rest term. S.told s view (all ∙ known) term rest)

        pub node_power : x / 2 ^ 62 % 4 ≡ 2 → PowerAt ar end above x c.at left r → c.at + left ≡ room → NodeAt s ar end least above c r
        node_power k S all =
            behind (λ rest term. a_raised term ar end above rest) h (omega arith)
            (λ rest term. node_raised term ar end above rest _ (λ z. omega arith) (λ z. omega arith))
            (λ rest term. S.told s view (all ∙ known) term rest)
