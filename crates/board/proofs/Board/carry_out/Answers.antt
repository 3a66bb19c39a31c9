-- An entry that can be carried out names a place among the rows, or the one after them, and its rows are the definition's.
use Rattle.std.proofs.Common.{rules, ◌≡◌, ◌∙◌, ◌-◌, ◌+◌, List, arith, length, set, sym, ap}
use Rattle.rows.specs.declared.Row.{Row}
use Rattle.board.proofs.Moves.{copied_up, copied_down}
use Rattle.board.proofs.Entries.{in_place, in_room, place_below, has_kind, out_place, taken_out, put_there, set_there}
use Rattle.board.proofs.Board.carry_out.Goals as goal

pub copy_within-requires-clause-start_le_end : goal.copy_within-requires-clause-start_le_end
copy_within-requires-clause-start_le_end c =
    let b = c.args.self.now in
    let whole : length b.rows ≡ 1024 = search rules in
    let k : c.args.entry.kind ≡ 0 = sym (rw c.in-Ok-TakeOut.field-0-is at c.in-Ok-TakeOut.ensures) in
    let h = out_place b c.args.entry whole c.requires.count c.requires.can k in
    omega (arith, h)

pub copy_within-requires-clause-dest_in_bounds : goal.copy_within-requires-clause-dest_in_bounds
copy_within-requires-clause-dest_in_bounds c =
    let b = c.args.self.now in
    let whole : length b.rows ≡ 1024 = search rules in
    let k : c.args.entry.kind ≡ 0 = sym (rw c.in-Ok-TakeOut.field-0-is at c.in-Ok-TakeOut.ensures) in
    let h = out_place b c.args.entry whole c.requires.count c.requires.can k in
    omega (arith, h)

pub overflow_sub-self : goal.overflow_sub-self
overflow_sub-self c =
    let b = c.args.self.now in
    let whole : length b.rows ≡ 1024 = search rules in
    let k : c.args.entry.kind ≡ 0 = sym (rw c.in-Ok-TakeOut.field-0-is at c.in-Ok-TakeOut.ensures) in
    let h = out_place b c.args.entry whole c.requires.count c.requires.can k in
    omega (arith, h)

pub returns-in-Ok-TakeOut : goal.returns-in-Ok-TakeOut
returns-in-Ok-TakeOut c =
    let b = c.args.self.now in
    let e = c.args.entry in
    let whole : length b.rows ≡ 1024 = search rules in
    let k : e.kind ≡ 0 = sym (rw c.in-Ok-TakeOut.field-0-is at c.in-Ok-TakeOut.ensures) in
    let h = out_place b e whole c.requires.count c.requires.can k in
    let rows = c.copy_within.ensures.after ∙ copied_up b.rows e.at b.count h in
    ap (λ (p : List Row). record { count = b.count - 1; rows = p; kept = b.kept; undone = b.undone; journal = b.journal }) rows
    ∙ taken_out b e whole c.requires.count c.requires.can k

pub copy_within-requires-in-Ok-PutIn-clause-start_le_end : goal.copy_within-requires-in-Ok-PutIn-clause-start_le_end
copy_within-requires-in-Ok-PutIn-clause-start_le_end c =
    let b = c.args.self.now in
    let whole : length b.rows ≡ 1024 = search rules in
    let k : c.args.entry.kind ≡ 1 = sym (rw c.in-Ok-PutIn.field-0-is at c.in-Ok-PutIn.ensures) in
    in_place b c.args.entry whole c.requires.count c.requires.can k

pub copy_within-requires-in-Ok-PutIn-clause-dest_in_bounds : goal.copy_within-requires-in-Ok-PutIn-clause-dest_in_bounds
copy_within-requires-in-Ok-PutIn-clause-dest_in_bounds c =
    let b = c.args.self.now in
    let whole : length b.rows ≡ 1024 = search rules in
    let k : c.args.entry.kind ≡ 1 = sym (rw c.in-Ok-PutIn.field-0-is at c.in-Ok-PutIn.ensures) in
    let h = in_place b c.args.entry whole c.requires.count c.requires.can k in
    let r = in_room b c.args.entry whole c.requires.count c.requires.can k in
    omega (arith, h, r)

pub bounds-self-at : goal.bounds-self-at
bounds-self-at c =
    let b = c.args.self.now in
    let whole : length b.rows ≡ 1024 = search rules in
    place_below b c.args.entry whole c.requires.count c.requires.can

pub returns-in-Ok-PutIn : goal.returns-in-Ok-PutIn
returns-in-Ok-PutIn c =
    let b = c.args.self.now in
    let e = c.args.entry in
    let whole : length b.rows ≡ 1024 = search rules in
    let k : e.kind ≡ 1 = sym (rw c.in-Ok-PutIn.field-0-is at c.in-Ok-PutIn.ensures) in
    let h = in_place b e whole c.requires.count c.requires.can k in
    let rows = c.copy_within-in-Ok-PutIn.ensures.after ∙ copied_down b.rows e.at b.count h in
    ap (λ (p : List Row). record { count = b.count + 1; rows = set p e.at e.row; kept = b.kept; undone = b.undone; journal = b.journal }) rows
    ∙ put_there b e whole c.requires.count c.requires.can k

pub bounds-self-at-in-Ok-Set : goal.bounds-self-at-in-Ok-Set
bounds-self-at-in-Ok-Set c =
    let b = c.args.self.now in
    let whole : length b.rows ≡ 1024 = search rules in
    place_below b c.args.entry whole c.requires.count c.requires.can

pub returns-in-Ok-Set : goal.returns-in-Ok-Set
returns-in-Ok-Set c =
    let b = c.args.self.now in
    let e = c.args.entry in
    let whole : length b.rows ≡ 1024 = search rules in
    let k : e.kind ≡ 2 = sym (rw c.in-Ok-Set.field-0-is at c.in-Ok-Set.ensures) in
    set_there b e whole c.requires.count c.requires.can (λ h. omega (arith, h, k)) (λ h. omega (arith, h, k))

pub unreachable-requires : goal.unreachable-requires
unreachable-requires c =
    let b = c.args.self.now in
    let whole : length b.rows ≡ 1024 = search rules in
    let k = has_kind b c.args.entry whole c.requires.count c.requires.can in
    omega (arith, k, c.in-Err.ensures)
