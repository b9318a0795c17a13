-- `scans::heads::head_at` meets its contract.
use native.Mathlib.Omega.{arith}
use Rattle.scans.proofs.Headings.{node_past, node_low, node_three, node_leaf_past, node_leaf, node_symbol, node_power}
use Rattle.scans.proofs.heads.head_at.Goals as goal

pub returns-then-at-room : goal.returns-then-at-room
returns-then-at-room g c = node_past c.room-room.ensures (omega (arith, c.if-at-room.true))

pub returns-then-left-lt2 : goal.returns-then-left-lt2
returns-then-left-lt2 g c = node_past c.room-room.ensures (omega (arith, c.if-at-room.false, c.if-left-lt2.true))

pub returns-then-tag-least : goal.returns-then-tag-least
returns-then-tag-least g c = node_low c.room-room.ensures c.view-x.ensures (omega (arith, c.if-at-room.false, c.if-left-lt2.false)) c.if-tag-least.true

pub returns-then-left-lt8 : goal.returns-then-left-lt8
returns-then-left-lt8 g c = node_leaf_past c.room-room.ensures c.view-x.ensures (omega (arith, c.if-at-room.false, c.if-left-lt2.false)) c.if-tag-least.false c.in-0.is (omega (arith, c.if-at-room.false, c.if-left-lt8.true))

pub returns-else-left-lt8 : goal.returns-else-left-lt8
returns-else-left-lt8 g c = node_leaf c.room-room.ensures c.view-x.ensures (omega (arith, c.if-at-room.false, c.if-left-lt2.false)) c.if-tag-least.false c.in-0.is (omega (arith, c.if-at-room.false, c.if-left-lt8.false))

pub returns-in-1 : goal.returns-in-1
returns-in-1 g c = node_symbol c.room-room.ensures c.view-x.ensures (omega (arith, c.if-at-room.false, c.if-left-lt2.false)) c.if-tag-least.false c.in-1.is c.symbol.ensures (omega (arith, c.if-at-room.false))

pub returns-in-2 : goal.returns-in-2
returns-in-2 g c = node_power c.room-room.ensures c.view-x.ensures (omega (arith, c.if-at-room.false, c.if-left-lt2.false)) c.if-tag-least.false c.in-2.is c.power.ensures (omega (arith, c.if-at-room.false))

pub returns-in_default : goal.returns-in_default
returns-in_default g c = node_three c.room-room.ensures c.view-x.ensures (omega (arith, c.if-at-room.false, c.if-left-lt2.false)) c.if-tag-least.false (omega arith)
