-- Recursions on a number, beside code that counts.
use Rattle.std.proofs.Common.{◌≡◌, ◌<◌, ◌≤◌, ℕ, zero, suc, ◌+◌, ◌-◌, List, refl, ap, ◌∙◌, Some, None, arith}
use Rattle.std.specs.Prelude.{drop}
use Rattle.chv_ast.specs.Grammar.{level_of}
use Rattle.chv_ast.specs.Lexemes.{Lexeme}
use Rattle.chv_ast.specs.declared.expr.BinaryOp.{BinaryOp}
use Rattle.std.specs.Prelude.{Result, Ok, Err}
use Rattle.chv_parse.specs.Reading.{Reader, Reads}
use Rattle.chv_parse.specs.declared.fault.ParseFault.{ParseFault}
use Rattle.chv_parse.specs.declared.fault.ParseFault.TheVariants as fault
use Rattle.chv_parse.specs.declared.expr_reading.Operand.{Operand}
use Rattle.chv_parse.specs.ExprReading.{between, no_arguments, read_more, read_next, onward, climb, read_chain, read_in, read_at, read_inside}

-- one less
step_down : (n i : ℕ) → i < n → n - i ≡ suc (n - (i + 1))
step_down n i h = omega arith

climb_stops : (deeper : ℕ → Reader Operand) (room level turns : ℕ) (left : Operand) (tokens : List Lexeme) → onward room level left tokens ≡ None
    → climb deeper room level turns left tokens ≡ Some (left, tokens)
unfolding climb
climb_stops deeper room level zero left tokens e = refl
climb_stops deeper room level (suc turns) left tokens e = rw e refl

-- where no operation goes on, the operand is the whole
pub climb_ends : (deeper : ℕ → Reader Operand) (room level n i : ℕ) (left : Operand) (tokens : List Lexeme) → onward room level left tokens ≡ None
    → climb deeper room level (n - i) left tokens ≡ Some (left, tokens)
climb_ends deeper room level n i left tokens e = climb_stops deeper room level (n - i) left tokens e

-- so it is where the turns are used up
pub climb_done : (deeper : ℕ → Reader Operand) (room level n i : ℕ) (left : Operand) (tokens : List Lexeme) → n ≤ i
    → climb deeper room level (n - i) left tokens ≡ Some (left, tokens)
unfolding climb
climb_done deeper room level n i left tokens h = let e : n - i ≡ 0 = omega arith in rw e refl

-- where an operation goes on, it is climbed on from it
pub climb_goes_on : (deeper : ℕ → Reader Operand) (room level n i : ℕ) (op : BinaryOp) (left right : Operand) (tokens rest : List Lexeme) → i < n
    → onward room level left tokens ≡ Some op → deeper (level_of op + 1) (drop 1 tokens) ≡ Some (right, rest)
    → climb deeper room level (n - (i + 1)) (between op left right) rest ≡ climb deeper room level (n - i) left tokens
unfolding climb
climb_goes_on deeper room level n i op left right tokens rest h e k = rw (step_down n i h, e, k) refl

-- where its right operand is none, nothing is read
pub climb_breaks : (deeper : ℕ → Reader Operand) (room level n i : ℕ) (op : BinaryOp) (left : Operand) (tokens : List Lexeme) → i < n
    → onward room level left tokens ≡ Some op → deeper (level_of op + 1) (drop 1 tokens) ≡ None
    → climb deeper room level (n - i) left tokens ≡ None
unfolding climb
climb_breaks deeper room level n i op left tokens h e k = rw (step_down n i h, e, k) refl

-- without room nothing is read
pub read_at_none : (nest room level : ℕ) (tokens : List Lexeme) → room ≡ 0 → read_at nest room level tokens ≡ None
unfolding read_at read_in
read_at_none zero room level tokens e = rw e refl
read_at_none (suc nest) room level tokens e = rw e refl

chain_read : (nest low level : ℕ) (tokens : List Lexeme) → read_at nest (suc low) level tokens ≡ read_chain (read_at nest low) nest (read_inside nest) low level tokens
unfolding read_at read_in read_inside
chain_read zero low level tokens = refl
chain_read (suc nest) low level tokens = refl

-- with room an operand is read, and what goes on behind it
pub read_at_some : (nest room level : ℕ) (tokens : List Lexeme) → 0 < room
    → read_at nest room level tokens ≡ read_chain (read_at nest (room - 1)) nest (read_inside nest) (room - 1) level tokens
read_at_some nest room level tokens h =
    let e : room ≡ suc (room - 1) = omega arith in
    ap (λ n. read_at nest n level tokens) e ∙ chain_read nest (room - 1) level tokens

-- nothing is read in parentheses that may not be open
pub read_inside_none : (nest room : ℕ) (tokens : List Lexeme) → nest ≡ 0 → read_inside nest room tokens ≡ None
unfolding read_inside
read_inside_none nest room tokens e = rw e refl

-- in those that may, fewer are open
pub read_inside_some : (nest room : ℕ) (tokens : List Lexeme) → 0 < nest → read_inside nest room tokens ≡ read_at (nest - 1) room 0 tokens
unfolding read_inside
read_inside_some nest room tokens h = let e : nest ≡ suc (nest - 1) = omega arith in ap (λ n. read_inside n room tokens) e

-- no more arguments
pub read_more_none : (inside : Reader Operand) (count : ℕ) (tokens : List Lexeme) → count ≡ 0 → read_more inside count tokens ≡ Some (no_arguments, tokens)
unfolding read_more
read_more_none inside count tokens e = rw e refl

-- one more argument
pub read_more_some : (inside : Reader Operand) (count : ℕ) (tokens : List Lexeme) → 0 < count
    → read_more inside count tokens ≡ read_next inside (read_more inside (count - 1)) tokens
unfolding read_more
read_more_some inside count tokens h = let e : count ≡ suc (count - 1) = omega arith in ap (λ n. read_more inside n tokens) e

-- what reads the same
pub reads_as : {A : Type 0} (r s : Reader A) (old new : List Lexeme) (result : Result A ParseFault) → r old ≡ s old → Reads s old result new → Reads r old result new
reads_as r s old new (Ok a) e h = e ∙ h
reads_as r s old new (Err fault.Syntax) e h = e ∙ h
reads_as r s old new (Err fault.NoMemory) e h = h
