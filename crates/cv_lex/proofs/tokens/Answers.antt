use Rattle.std.proofs.Common.{◌≡◌, ℕ, ◌+◌, ◌-◌, ◌<◌, ◌≤◌, List, length, take, drop, ap, sym, ◌∙◌, subst, arith, length-drop, IsAscii}
use Rattle.std.proofs.lemmas.List.{take_rest, length-take-le}
use Rattle.cv_lex.specs.declared.TokenKind.{TokenKind}
use Rattle.cv_lex.specs.declared.scan.Piece.{Piece}
use Rattle.cv_lex.specs.declared.scan.Piece.TheVariants.{Nothing, Between, Lexeme, OpenComment, WideNumber, ForeignByte}
use Rattle.cv_lex.specs.Lexis.{piece, IsToken}
use Rattle.cv_lex.specs.View.{with_token}
use Rattle.cv_lex.proofs.Pieces.{lexeme, between_bounds}
use Rattle.cv_lex.proofs.Reading.{reads_between, reads_lexeme, reads_all, reads_comment, reads_number, reads_byte}
use Rattle.cv_lex.proofs.tokens.Goals as goal

-- the piece of what is left
here : (bytes : List ℕ) (at : ℕ) (p : Piece) → p ≡ piece (take (length bytes - at) (drop at bytes)) → piece (drop at bytes) ≡ p
here bytes at p e = ap piece (sym (take_rest bytes at)) ∙ sym e

-- a piece has a byte, and ends within the text
between_within : (bytes : List ℕ) (at n : ℕ) → at ≤ length bytes → Between n ≡ piece (take (length bytes - at) (drop at bytes)) → (0 < n) × (at + n ≤ length bytes)
between_within bytes at n h e = let f = between_bounds (drop at bytes) n (here bytes at (Between n) e) in (f.0, omega (arith, f.1, length-drop at bytes))

lexeme_within : (bytes : List ℕ) (at n : ℕ) (kind : TokenKind) → at ≤ length bytes → Lexeme kind n ≡ piece (take (length bytes - at) (drop at bytes)) → (0 < n) × (at + n ≤ length bytes)
lexeme_within bytes at n kind h e = let f = lexeme (drop at bytes) kind n (here bytes at (Lexeme kind n) e) in (f.some, omega (arith, f.within, length-drop at bytes))

pub returns-in-Nothing-clause-ok : goal.returns-in-Nothing-clause-ok
returns-in-Nothing-clause-ok c = reads_all c.args.bytes.now c.pieces.found c.pieces.at c.pieces.invariant (here c.args.bytes.now c.pieces.at Nothing c.in-Nothing.ensures)

pub overflow_add-at : goal.overflow_add-at
overflow_add-at c = let f = between_within c.args.bytes.now c.pieces.at c.in-Between.len c.pieces.invariant.within c.in-Between.ensures in omega arith

pub pieces-smaller-in-Between : goal.pieces-smaller-in-Between
pieces-smaller-in-Between c = let f = between_within c.args.bytes.now c.pieces.at c.in-Between.len c.pieces.invariant.within c.in-Between.ensures in omega arith

pub pieces-preserved-in-Between : goal.pieces-preserved-in-Between
pieces-preserved-in-Between c = reads_between c.args.bytes.now c.pieces.found c.pieces.at c.pieces.invariant c.in-Between.len (here c.args.bytes.now c.pieces.at (Between c.in-Between.len) c.in-Between.ensures)

pub slice_bounds-ascii_text-end : goal.slice_bounds-ascii_text-end
slice_bounds-ascii_text-end c =
    let f = lexeme (drop c.pieces.at c.args.bytes.now) c.in-Lexeme.kind c.in-Lexeme.len (here c.args.bytes.now c.pieces.at (Lexeme c.in-Lexeme.kind c.in-Lexeme.len) c.in-Lexeme.ensures) in
    sym (ap (λ r. length (take c.in-Lexeme.len r)) (take_rest c.args.bytes.now c.pieces.at) ∙ length-take-le c.in-Lexeme.len (drop c.pieces.at c.args.bytes.now) f.within)

pub ascii_text-requires : goal.ascii_text-requires
ascii_text-requires c =
    let f = lexeme (drop c.pieces.at c.args.bytes.now) c.in-Lexeme.kind c.in-Lexeme.len (here c.args.bytes.now c.pieces.at (Lexeme c.in-Lexeme.kind c.in-Lexeme.len) c.in-Lexeme.ensures) in
    subst (λ r. IsAscii (take c.in-Lexeme.len r)) (sym (take_rest c.args.bytes.now c.pieces.at)) f.ascii

pub push-requires-clause-token : goal.push-requires-clause-token
push-requires-clause-token c =
    let f = lexeme (drop c.pieces.at c.args.bytes.now) c.in-Lexeme.kind c.in-Lexeme.len (here c.args.bytes.now c.pieces.at (Lexeme c.in-Lexeme.kind c.in-Lexeme.len) c.in-Lexeme.ensures) in
    subst (IsToken c.in-Lexeme.kind) (sym (c.ascii_text.ensures ∙ ap (take c.in-Lexeme.len) (take_rest c.args.bytes.now c.pieces.at))) f.alone

pub overflow_add-at-in-Lexeme : goal.overflow_add-at-in-Lexeme
overflow_add-at-in-Lexeme c = let f = lexeme_within c.args.bytes.now c.pieces.at c.in-Lexeme.len c.in-Lexeme.kind c.pieces.invariant.within c.in-Lexeme.ensures in omega arith

pub pieces-smaller : goal.pieces-smaller
pieces-smaller c = let f = lexeme_within c.args.bytes.now c.pieces.at c.in-Lexeme.len c.in-Lexeme.kind c.pieces.invariant.within c.in-Lexeme.ensures in omega arith

pub pieces-preserved : goal.pieces-preserved
pieces-preserved c =
    let text = c.ascii_text.ensures ∙ ap (take c.in-Lexeme.len) (take_rest c.args.bytes.now c.pieces.at) in
    reads_lexeme c.args.bytes.now c.pieces.found c.pieces.at c.pieces.invariant c.in-Lexeme.kind c.in-Lexeme.len c.push.new.self
    (here c.args.bytes.now c.pieces.at (Lexeme c.in-Lexeme.kind c.in-Lexeme.len) c.in-Lexeme.ensures)
    (c.in_ok-push-in-Lexeme.ensures.ok ∙ ap (λ t. with_token c.pieces.found (record { kind = c.in-Lexeme.kind; text = t; offset = c.pieces.at })) text)

pub returns-in-OpenComment-clause-err : goal.returns-in-OpenComment-clause-err
returns-in-OpenComment-clause-err c = reads_comment c.args.bytes.now c.pieces.found c.pieces.at c.pieces.invariant (here c.args.bytes.now c.pieces.at OpenComment c.in-OpenComment.ensures)

pub returns-in-WideNumber-clause-err : goal.returns-in-WideNumber-clause-err
returns-in-WideNumber-clause-err c = reads_number c.args.bytes.now c.pieces.found c.pieces.at c.pieces.invariant (here c.args.bytes.now c.pieces.at WideNumber c.in-WideNumber.ensures)

pub returns-in-ForeignByte-clause-err : goal.returns-in-ForeignByte-clause-err
returns-in-ForeignByte-clause-err c = reads_byte c.args.bytes.now c.pieces.found c.pieces.at c.pieces.invariant (here c.args.bytes.now c.pieces.at ForeignByte c.in-ForeignByte.ensures)
