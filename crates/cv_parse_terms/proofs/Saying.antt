-- Pieces that read what a form reads, and make what its value stands for.
use Rattle.std.proofs.Common.{◌≡◌, ℕ, zero, suc, ◌+◌, ◌-◌, ◌<◌, Bool, true, false, ◌||◌, List, [], ◌∷◌, ◌++◌, length, drop, refl, ap, ap₂, sym, ◌∙◌, arith, subst, append_assoc, append-nil, Option, Some, None, Result, Ok, Err}
use Rattle.cv_syntax_trees.specs.Tree.{Tree, Empty, chain, binders, names}
use Rattle.cv_syntax_trees.specs.declared.head.Head.{Head}
use Rattle.cv_syntax_trees.specs.declared.head.Head.TheVariants as head
use Rattle.cv_syntax.specs.Postorder.{postorder}
use Rattle.cv_syntax.specs.declared.make.Make.{Make}
use Rattle.cv_syntax.specs.declared.make.Make.TheVariants.{Nothing, Over}
use Rattle.cv_parse_notation.specs.declared.sign.Sign.{Sign}
use Rattle.cv_parse_notation.specs.declared.sign.Mark.{Mark}
use Rattle.cv_parse_notation.specs.Spells.{Kind, next_is, is_mark, starts}
use Rattle.cv_parse_notation.specs.Form.{sign, word, note, number, nought, find_word, may, many, either, made, level, deeper, ◌&◌, ◌▸◌, ◌◂◌}
use Rattle.cv_parse_notation.specs.Reads.{Read, Reader, Found, Fault, ◌>>=◌, found, joined, mapped, one_more, nothing, pick, no_level, no_syntax, read_many, read_sign}
use Rattle.cv_parse_grammar.specs.declared.role.Role.{Role}
use Rattle.cv_parse_grammar.specs.Declarations.{some_of}
use Rattle.cv_parse_grammar.specs.Marks.{rule_of}
use Rattle.cv_parse_grammar.specs.Phrases.{Sort, Phrase, after, row}
use Rattle.cv_parse_grammar.specs.Rules.{heads}
use Rattle.cv_parse_terms.specs.declared.piece.Ahead.{Ahead}
use Rattle.cv_parse_terms.specs.declared.piece.Naming.{Naming}
use Rattle.cv_parse_terms.specs.declared.piece.Naming.TheVariants as naming
use Rattle.cv_parse_terms.specs.declared.piece.Pairing.{Pairing}
use Rattle.cv_parse_terms.specs.declared.piece.Pairing.TheVariants as pairing
use Rattle.cv_parse_terms.specs.declared.piece.Closing.{Closing}
use Rattle.cv_parse_terms.specs.declared.piece.Closing.TheVariants as closing
use Rattle.cv_parse_terms.specs.declared.piece.Piece.{Piece}
use Rattle.cv_parse_terms.specs.declared.piece.Piece.TheVariants as piece
use Rattle.cv_parse_terms.specs.Gives.{positive, below_by, read_by}
use Rattle.cv_parse_terms.specs.Tables.{Parts, Work, Step, and_then, before, begins, below_step, bounds, changed, chosen, closed, closer, instead, made_no_part, marked, more, named, no_room, paired, part, piece_in, pieces_in, pieces_step, put, refused, repeated, row_in, waits}
use Rattle.cv_parse_terms.specs.TermRows.{row_in_table, rows_of_terms}
use Rattle.cv_parse_terms.proofs.Walks.{row_law}

-- parts behind those that are there
abbrev pub adds : List Make → Parts → Parts
adds l q = record { names = q.names; makes = q.makes ++ l }

abbrev pub grows : Tree → Parts → Parts
grows t = adds (postorder t)

-- in files, or in scripts, where names may have marks
pub record SaysBy (marks : Bool) {A : Type 0} (n bound : ℕ) (ps : List Piece) (f : Phrase A) (e : A → Parts → Parts) : Type 0 where
  pub law : (w : Work) → pieces_in (rows_of_terms marks) n bound ps w ≡ put e w (read_by (rule_of marks) n f w.rest)

abbrev pub Says : {A : Type 0} → ℕ → ℕ → List Piece → Phrase A → (A → Parts → Parts) → Type 0
Says n bound ps f e = SaysBy false n bound ps f e

-- steps one behind another

then_nothing : (r : Result Work Fault) → and_then r (λ w. Ok w) ≡ r
then_nothing (Ok w) = refl
then_nothing (Err e) = refl

pieces_append : (one : Piece → Step) (ps qs : List Piece) (w : Work) → pieces_step one (ps ++ qs) w ≡ and_then (pieces_step one ps w) (pieces_step one qs)
pieces_append one [] qs w = refl
pieces_append one (p ∷ ps) qs w = go (one p w) (λ v. pieces_append one ps qs v) where
  go : (r : Result Work Fault) → ((v : Work) → pieces_step one (ps ++ qs) v ≡ and_then (pieces_step one ps v) (pieces_step one qs)) → and_then r (pieces_step one (ps ++ qs)) ≡ and_then (and_then r (pieces_step one ps)) (pieces_step one qs)
  go (Ok v) h = h v
  go (Err x) h = refl

put_joined : {A B : Type 0} (e : A → Parts → Parts) (d : B → Parts → Parts) (w : Work) (x : Found Role A) (s : Read Role B) → put d (record { parts = e x.value w.parts; uses = w.uses ++ x.uses; rest = x.rest }) s ≡ put (λ (c : A × B) q. d c.1 (e c.0 q)) w (s >>= joined x)
put_joined e d w x (Ok y) = ap (λ us. let v : Result Work Fault = Ok (record { parts = d y.value (e x.value w.parts); uses = us; rest = y.rest }) in v) (append_assoc w.uses x.uses y.uses)
put_joined e d w x (Err f) = refl

put_both : {A B : Type 0} (e : A → Parts → Parts) (d : B → Parts → Parts) (w : Work) (r : Read Role A) (p : Step) (s : Reader Role B) → ((v : Work) → p v ≡ put d v (s v.rest)) → and_then (put e w r) p ≡ put (λ (c : A × B) q. d c.1 (e c.0 q)) w (r >>= λ x. s x.rest >>= joined x)
put_both e d w (Ok x) p s h = h (record { parts = e x.value w.parts; uses = w.uses ++ x.uses; rest = x.rest }) ∙ put_joined e d w x (s x.rest)
put_both e d w (Err f) p s h = refl

put_mapped : {A B : Type 0} (v : A → B) (e : B → Parts → Parts) (w : Work) (r : Read Role A) → put (λ a. e (v a)) w r ≡ put e w (r >>= mapped v)
put_mapped v e w (Ok x) = refl
put_mapped v e w (Err f) = refl

put_same : {A : Type 0} (e d : A → Parts → Parts) (w : Work) (r : Read Role A) → ((x : Found Role A) → r ≡ Ok x → e x.value w.parts ≡ d x.value w.parts) → put e w r ≡ put d w r
put_same e d w (Ok x) h = ap (λ q. let v : Result Work Fault = Ok (record { parts = q; uses = w.uses ++ x.uses; rest = x.rest }) in v) (h x refl)
put_same e d w (Err f) h = refl

put_changed : {A : Type 0} (c : Parts → Parts) (e : A → Parts → Parts) (w : Work) (r : Read Role A) → and_then (put e w r) (changed c) ≡ put (λ a q. c (e a q)) w r
put_changed c e w (Ok x) = refl
put_changed c e w (Err f) = refl

-- one piece

pub sign_says : {marks : Bool} (n b : ℕ) (m : Mark) → SaysBy marks n b (piece.Sign m ∷ []) (sign m) made_no_part
sign_says n b m = record { law = λ w. then_nothing (put made_no_part w (read_sign m w.rest)) }

pub word_says : {marks : Bool} (n b : ℕ) (r : Role) → SaysBy marks n b (piece.Word r ∷ []) (word r) waits
word_says {marks = marks} n b r = record { law = λ w. then_nothing (put waits w (read_by (rule_of marks) n (word r) w.rest)) }

pub note_says : {marks : Bool} (n b : ℕ) (r : Role) → SaysBy marks n b (piece.Note r ∷ []) (note r) made_no_part
note_says {marks = marks} n b r = record { law = λ w. then_nothing (put made_no_part w (read_by (rule_of marks) n (note r) w.rest)) }

pub zero_says : {marks : Bool} (n b : ℕ) → SaysBy marks n b (piece.Zero ∷ []) nought made_no_part
zero_says {marks = marks} n b = record { law = λ w. then_nothing (put made_no_part w (read_by (rule_of marks) n nought w.rest)) }

pub find_says : {marks : Bool} (n b : ℕ) → SaysBy marks n b (piece.Find ∷ []) find_word waits
find_says {marks = marks} n b = record { law = λ w. then_nothing (put waits w (read_by (rule_of marks) n find_word w.rest)) }

pub number_says : {marks : Bool} (n b : ℕ) → SaysBy marks n b (piece.Instead ∷ []) number instead
number_says {marks = marks} n b = record { law = λ w. then_nothing (put instead w (read_by (rule_of marks) n number w.rest)) }

pub row_says : {marks : Bool} {A : Type 0} {n : ℕ} {f : Phrase A} {e : A → Parts → Parts} (b r : ℕ) → r < b → SaysBy marks n r (row_in_table marks r) f e → SaysBy marks n b (piece.Row r ∷ []) f e
row_says {marks = marks} {n = n} b r h s = record { law = λ w. then_nothing (row_in (rows_of_terms marks) n b r w) ∙ (row_law (rows_of_terms marks) n b r w h ∙ s.law w) }

-- how forms go together

pub both_says : {marks : Bool} {A B : Type 0} {n b : ℕ} {f : Phrase A} {g : Phrase B} {e : A → Parts → Parts} {d : B → Parts → Parts} (ps qs : List Piece) → SaysBy marks n b ps f e → SaysBy marks n b qs g d → SaysBy marks n b (ps ++ qs) (f & g) (λ c q. d c.1 (e c.0 q))
both_says {marks = marks} {n = n} {b = b} {f = f} {g = g} {e = e} {d = d} ps qs s t = record {
  law = λ w.
      pieces_append (piece_in (rows_of_terms marks) n b) ps qs w
      ∙ (ap (λ r. and_then r (pieces_in (rows_of_terms marks) n b qs)) (s.law w) ∙ put_both e d w (read_by (rule_of marks) n f w.rest) (pieces_in (rows_of_terms marks) n b qs) (read_by (rule_of marks) n g) t.law);
}

pub made_says : {marks : Bool} {A B : Type 0} {n b : ℕ} {ps : List Piece} {f : Phrase A} (v : A → B) (e : B → Parts → Parts) → SaysBy marks n b ps f (λ a. e (v a)) → SaysBy marks n b ps (made v f) e
made_says {marks = marks} {n = n} {f = f} v e s = record { law = λ w. s.law w ∙ put_mapped v e w (read_by (rule_of marks) n f w.rest) }

pub same_says : {marks : Bool} {A : Type 0} {n b : ℕ} {ps : List Piece} {f : Phrase A} {e : A → Parts → Parts} (d : A → Parts → Parts) → ((a : A) (q : Parts) → e a q ≡ d a q) → SaysBy marks n b ps f e → SaysBy marks n b ps f d
same_says {marks = marks} {n = n} {f = f} {e = e} d h s = record { law = λ w. s.law w ∙ put_same e d w (read_by (rule_of marks) n f w.rest) (λ x i. h x.value w.parts) }

pub sign_before : {marks : Bool} {A : Type 0} {n b : ℕ} {f : Phrase A} {e : A → Parts → Parts} (m : Mark) (ps : List Piece) → SaysBy marks n b ps f e → SaysBy marks n b (piece.Sign m ∷ ps) (m ▸ f) e
sign_before {n = n} {b = b} {e = e} m ps s = made_says (λ p. p.1) e (both_says (piece.Sign m ∷ []) ps (sign_says n b m) s)

pub sign_behind : {marks : Bool} {A : Type 0} {n b : ℕ} {f : Phrase A} {e : A → Parts → Parts} (m : Mark) (ps : List Piece) → SaysBy marks n b ps f e → SaysBy marks n b (ps ++ piece.Sign m ∷ []) (f ◂ m) e
sign_behind {n = n} {b = b} {e = e} m ps s = made_says (λ p. p.0) e (both_says ps (piece.Sign m ∷ []) s (sign_says n b m))

pub between : {marks : Bool} {A : Type 0} {n b : ℕ} {f : Phrase A} {e : A → Parts → Parts} (m k : Mark) (ps : List Piece) → SaysBy marks n b ps f e → SaysBy marks n b (piece.Sign m ∷ (ps ++ piece.Sign k ∷ [])) (m ▸ f ◂ k) e
between m k ps s = sign_before m (ps ++ piece.Sign k ∷ []) (sign_behind k ps s)

-- parts and heads behind a form, and a part before it

changes : {marks : Bool} {A : Type 0} {n b : ℕ} {f : Phrase A} {e : A → Parts → Parts} (c : Parts → Parts) (one : Piece) (ps : List Piece) → ((w : Work) → piece_in (rows_of_terms marks) n b one w ≡ changed c w) → SaysBy marks n b ps f e → SaysBy marks n b (ps ++ one ∷ []) f (λ a q. c (e a q))
changes {marks = marks} {A = A} {n = n} {b = b} {f = f} {e = e} c one ps h s = record {
  law = λ w.
      pieces_append (piece_in (rows_of_terms marks) n b) ps (one ∷ []) w
      ∙ (ap (λ r. and_then r (pieces_in (rows_of_terms marks) n b (one ∷ []))) (s.law w)
      ∙ (go w (read_by (rule_of marks) n f w.rest) ∙ put_changed c e w (read_by (rule_of marks) n f w.rest)));
} where
  go : (w : Work) (r : Read Role A) → and_then (put e w r) (pieces_in (rows_of_terms marks) n b (one ∷ [])) ≡ and_then (put e w r) (changed c)
  go w (Ok x) =
      let v : Work = record { parts = e x.value w.parts; uses = w.uses ++ x.uses; rest = x.rest } in
      then_nothing (piece_in (rows_of_terms marks) n b one v) ∙ h v
  go w (Err y) = refl

pub part_behind : {marks : Bool} {A : Type 0} {n b : ℕ} {f : Phrase A} {e : A → Parts → Parts} (m : Make) (ps : List Piece) → SaysBy marks n b ps f e → SaysBy marks n b (ps ++ piece.Part m ∷ []) f (λ a q. part m (e a q))
part_behind m ps s = changes (part m) (piece.Part m) ps (λ w. refl) s

pub head_behind : {marks : Bool} {A : Type 0} {n b : ℕ} {f : Phrase A} {e : A → Parts → Parts} (h : Naming) (ps : List Piece) → SaysBy marks n b ps f e → SaysBy marks n b (ps ++ piece.Named h ∷ []) f (λ a q. named h (e a q))
head_behind h ps s = changes (named h) (piece.Named h) ps (λ w. refl) s

pub pair_behind : {marks : Bool} {A : Type 0} {n b : ℕ} {f : Phrase A} {e : A → Parts → Parts} (h : Pairing) (ps : List Piece) → SaysBy marks n b ps f e → SaysBy marks n b (ps ++ piece.Paired h ∷ []) f (λ a q. paired h (e a q))
pair_behind h ps s = changes (paired h) (piece.Paired h) ps (λ w. refl) s

pub before_behind : {marks : Bool} {A : Type 0} {n b : ℕ} {f : Phrase A} {e : A → Parts → Parts} (ps : List Piece) → SaysBy marks n b ps f e → SaysBy marks n b (ps ++ piece.Before ∷ []) f (λ a q. before (e a q))
before_behind ps s = changes before piece.Before ps (λ w. refl) s

pub bounds_behind : {marks : Bool} {A : Type 0} {n b : ℕ} {f : Phrase A} {e : A → Parts → Parts} (ps : List Piece) → SaysBy marks n b ps f e → SaysBy marks n b (ps ++ piece.Bounds ∷ []) f (λ a q. bounds (e a q))
bounds_behind ps s = changes bounds piece.Bounds ps (λ w. refl) s

pub value_behind : {marks : Bool} {A : Type 0} {n b : ℕ} {f : Phrase A} {e : A → Parts → Parts} (x : ℕ) (ps : List Piece) → SaysBy marks n b ps f e → SaysBy marks n b (ps ++ piece.Value x ∷ []) f (λ a q. waits x (e a q))
value_behind x ps s = changes (waits x) (piece.Value x) ps (λ w. refl) s

pub part_before : {marks : Bool} {A : Type 0} {n b : ℕ} {f : Phrase A} {e : A → Parts → Parts} (m : Make) (ps : List Piece) → SaysBy marks n b ps f e → SaysBy marks n b (piece.Part m ∷ ps) f (λ a q. e a (part m q))
part_before {marks = marks} {A = A} {n = n} {f = f} {e = e} m ps s = record { law = λ w. s.law (record { parts = part m w.parts; uses = w.uses; rest = w.rest }) ∙ go w (read_by (rule_of marks) n f w.rest) } where
  go : (w : Work) (r : Read Role A) → put e (record { parts = part m w.parts; uses = w.uses; rest = w.rest }) r ≡ put (λ a q. e a (part m q)) w r
  go w (Ok x) = refl
  go w (Err y) = refl

-- choices by the next token

pub next_same : (p q : Kind → Bool) → ((k : Kind) → p k ≡ q k) → (ts : List Sign) → next_is p ts ≡ next_is q ts
next_same p q h [] = refl
next_same p q h (t ∷ ts) = h _

chosen_put : {A : Type 0} (c d : Bool) (p q : Step) (e : A → Parts → Parts) (w : Work) (r s : Reader Role A) → c ≡ d → p w ≡ put e w (r w.rest) → q w ≡ put e w (s w.rest) → chosen c p q w ≡ put e w (pick d r s w.rest)
chosen_put true true p q e w r s i h k = h
chosen_put false false p q e w r s i h k = k
chosen_put true false p q e w r s i h k = absurd (cc)
chosen_put false true p q e w r s i h k = absurd (cc)

refused_put : {A : Type 0} (b c : Bool) (e : A → Parts → Parts) (w : Work) → b ≡ c → Err (no_room b (length w.rest)) ≡ put e w (pick c no_level no_syntax w.rest)
refused_put true true e w h = refl
refused_put false false e w h = refl
refused_put true false e w h = absurd (cc)
refused_put false true e w h = absurd (cc)

pub either_says : {marks : Bool} {A : Type 0} {n : ℕ} {f g : Phrase A} {e : A → Parts → Parts} (b : ℕ) (a : Ahead) (r s : ℕ) → r < b → s < b → ((k : Kind) → begins a k ≡ starts heads f k) → SaysBy marks n r (row_in_table marks r) f e → SaysBy marks n s (row_in_table marks s) g e → SaysBy marks n b (piece.Choice a r s ∷ []) (either f g) e
either_says {marks = marks} {n = n} {f = f} {g = g} {e = e} b a r s h i k x y = record {
  law = λ w.
      then_nothing (chosen (next_is (begins a) w.rest) (row_in (rows_of_terms marks) n b r) (row_in (rows_of_terms marks) n b s) w)
      ∙ chosen_put (next_is (begins a) w.rest) (next_is (starts heads f) w.rest) (row_in (rows_of_terms marks) n b r) (row_in (rows_of_terms marks) n b s) e w (read_by (rule_of marks) n f) (read_by (rule_of marks) n g)
      (next_same (begins a) (starts heads f) k w.rest) (row_law (rows_of_terms marks) n b r w h ∙ x.law w) (row_law (rows_of_terms marks) n b s w i ∙ y.law w);
}

-- a part that may be missing; the other row reads nothing, and makes what stands for it
pub may_says : {marks : Bool} {A : Type 0} {n : ℕ} {f : Phrase A} (b : ℕ) (a : Ahead) (r s : ℕ) (near : Bool) (e : Option A → Parts → Parts) → r < b → s < b → ((k : Kind) → begins a k ≡ starts heads f k) → SaysBy marks n r (row_in_table marks r) f (λ x. e (Some x)) → ((w : Work) → pieces_in (rows_of_terms marks) n s (row_in_table marks s) w ≡ changed (e None) w) → SaysBy marks n b (piece.Choice a r s ∷ []) (may near f) e
may_says {marks = marks} {n = n} {f = f} b a r s near e h i k x y = record {
  law = λ w.
      then_nothing (chosen (next_is (begins a) w.rest) (row_in (rows_of_terms marks) n b r) (row_in (rows_of_terms marks) n b s) w)
      ∙ chosen_put (next_is (begins a) w.rest) (next_is (starts heads f) w.rest) (row_in (rows_of_terms marks) n b r) (row_in (rows_of_terms marks) n b s) e w (λ us. read_by (rule_of marks) n f us >>= mapped Some) (nothing None)
      (next_same (begins a) (starts heads f) k w.rest)
      (row_law (rows_of_terms marks) n b r w h ∙ (x.law w ∙ put_mapped Some e w (read_by (rule_of marks) n f w.rest)))
      (row_law (rows_of_terms marks) n b s w i ∙ (y w ∙ ap (λ us. let v : Result Work Fault = Ok (record { parts = e None w.parts; uses = us; rest = w.rest }) in v) (sym (append-nil w.uses))));
}

-- the mark that may stand behind a name, and the head that it chooses

abbrev pub marked_head : Naming → Naming → Option (Unit {0}) → Naming
marked_head g h (Some u) = g
marked_head g h None = h

pub marked_says : {marks : Bool} (n b : ℕ) (m : Mark) (g h : Naming) → SaysBy marks n b (piece.Marked m g h ∷ []) (may false (sign m)) (λ o. named (marked_head g h o))
marked_says n b m g h = record {
  law = λ w.
      then_nothing (marked m g h w)
      ∙ chosen_put (next_is (is_mark m) w.rest) (next_is (is_mark m) w.rest) (λ v. and_then (put made_no_part v (read_sign m v.rest)) (changed (named g))) (changed (named h)) (λ o. named (marked_head g h o)) w (λ us. read_sign m us >>= mapped Some) (nothing None)
      refl
      (put_changed (named g) made_no_part w (read_sign m w.rest) ∙ put_mapped Some (λ o. named (marked_head g h o)) w (read_sign m w.rest))
      (ap (λ us. let v : Result Work Fault = Ok (record { parts = named h w.parts; uses = us; rest = w.rest }) in v) (sym (append-nil w.uses)));
}

pub level_says : {marks : Bool} {A : Type 0} {n : ℕ} {f : Phrase A} {e : A → Parts → Parts} (b : ℕ) (a : Ahead) (r : ℕ) → r < b → ((k : Kind) → begins a k ≡ starts heads f k) → SaysBy marks n r (row_in_table marks r) f e → SaysBy marks n b (piece.Level a r ∷ []) (level f) e
level_says {marks = marks} {n = n} {f = f} {e = e} b a r h k s = record {
  law = λ w.
      then_nothing (chosen (positive n) (row_in (rows_of_terms marks) n b r) (refused a) w)
      ∙ chosen_put (positive n) (positive n) (row_in (rows_of_terms marks) n b r) (refused a) e w (read_by (rule_of marks) n f) (pick (next_is (starts heads f) w.rest) no_level no_syntax)
      refl (row_law (rows_of_terms marks) n b r w h ∙ s.law w) (refused_put (next_is (begins a) w.rest) (next_is (starts heads f) w.rest) e w (next_same (begins a) (starts heads f) k w.rest));
}

-- one level down

pub record IsBelowBy (marks : Bool) (n : ℕ) (a : Ahead) (r : ℕ) (s : Sort) (e : Tree → Parts → Parts) : Type 0 where
  pub law : (w : Work) → below_step (rows_of_terms marks) n a r w ≡ put e w (below_by (rule_of marks) n s w.rest)

abbrev pub IsBelow : ℕ → Ahead → ℕ → Sort → (Tree → Parts → Parts) → Type 0
IsBelow n a r s e = IsBelowBy false n a r s e

pub deeper_says : {marks : Bool} {n : ℕ} {s : Sort} {e : Tree → Parts → Parts} (b : ℕ) (a : Ahead) (r : ℕ) → IsBelowBy marks n a r s e → SaysBy marks n b (piece.Deeper a r ∷ []) (deeper s) e
deeper_says {marks = marks} {n = n} b a r h = record { law = λ w. then_nothing (below_step (rows_of_terms marks) n a r w) ∙ h.law w }

pub none_below : {marks : Bool} (a : Ahead) (r : ℕ) (s : Sort) (e : Tree → Parts → Parts) → ((k : Kind) → begins a k ≡ heads s k) → IsBelowBy marks 0 a r s e
none_below a r s e h = record { law = λ w. refused_put (next_is (begins a) w.rest) (next_is (heads s) w.rest) e w (next_same (begins a) (heads s) h w.rest) }

-- lists

-- what the items of a list make, one behind another
abbrev pub each : {A : Type 0} → (A → Parts → Parts) → List A → Parts → Parts
each e [] q = q
each e (a ∷ l) q = each e l (e a q)

abbrev pub listed_parts : {A : Type 0} → Closing → (A → Parts → Parts) → ℕ → List A → Parts → Parts
listed_parts c e k l q = closed c (length l + k) (each e l q)

none_more : {A : Type 0} (c : Closing) (e : A → Parts → Parts) (k : ℕ) (w : Work) → changed (closed c k) w ≡ put (listed_parts c e k) w (found [] [] w.rest)
none_more c e k w =
    let i : k ≡ 0 + k = omega arith in
    ap₂ (λ j us. let v : Result Work Fault = Ok (record { parts = closed c j w.parts; uses = us; rest = w.rest }) in v) i (sym (append-nil w.uses))

one_more_put : {A : Type 0} (c : Closing) (e : A → Parts → Parts) (k : ℕ) (w : Work) (x : Found Role A) (s : Read Role (List A)) → put (listed_parts c e (k + 1)) (record { parts = e x.value w.parts; uses = w.uses ++ x.uses; rest = x.rest }) s ≡ put (listed_parts c e k) w (s >>= one_more x)
one_more_put c e k w x (Ok y) =
    let i : length y.value + (k + 1) ≡ length (x.value ∷ y.value) + k = omega arith in
    ap₂ (λ j us. let v : Result Work Fault = Ok (record { parts = closed c j (each e y.value (e x.value w.parts)); uses = us; rest = y.rest }) in v) i (append_assoc w.uses x.uses y.uses)
one_more_put c e k w x (Err f) = refl

more_says : (marks : Bool) {A : Type 0} (n b : ℕ) (c : Closing) (m : Mark) (r : ℕ) (f : Phrase A) (e : A → Parts → Parts) → ((w : Work) → row_in (rows_of_terms marks) n b r w ≡ put e w (read_by (rule_of marks) n f w.rest)) → (turns k : ℕ) (w : Work) → more c m (row_in (rows_of_terms marks) n b r) turns k w ≡ put (listed_parts c e k) w (read_many (starts heads (m ▸ f)) (read_by (rule_of marks) n (m ▸ f)) turns w.rest)
more_says marks n b c m r f e h zero k w = none_more c e k w
more_says marks {A = A} n b c m r f e h (suc turns) k w =
    chosen_put (next_is (is_mark m) w.rest) (next_is (starts heads (m ▸ f)) w.rest)
    (λ v. and_then (and_then (put made_no_part v (read_sign m v.rest)) (row_in (rows_of_terms marks) n b r)) (more c m (row_in (rows_of_terms marks) n b r) turns (k + 1))) (changed (closed c k))
    (listed_parts c e k) w
    (λ us. read_by (rule_of marks) n (m ▸ f) us >>= λ x. read_many (starts heads (m ▸ f)) (read_by (rule_of marks) n (m ▸ f)) turns x.rest >>= one_more x) (nothing [])
    (next_same (is_mark m) (starts heads (m ▸ f)) (λ j. refl) w.rest)
    (ap (λ y. and_then y (more c m (row_in (rows_of_terms marks) n b r) turns (k + 1))) (put_both made_no_part e w (read_sign m w.rest) (row_in (rows_of_terms marks) n b r) (read_by (rule_of marks) n f) h ∙ put_mapped (λ (p : Unit {0} × A). p.1) e w (read_by (rule_of marks) n (sign m & f) w.rest))
    ∙ go (read_by (rule_of marks) n (m ▸ f) w.rest) (λ v. more_says marks n b c m r f e h turns (k + 1) v))
    (none_more c e k w)
  where
    go : (s : Read Role A) → ((v : Work) → more c m (row_in (rows_of_terms marks) n b r) turns (k + 1) v ≡ put (listed_parts c e (k + 1)) v (read_many (starts heads (m ▸ f)) (read_by (rule_of marks) n (m ▸ f)) turns v.rest)) → and_then (put e w s) (more c m (row_in (rows_of_terms marks) n b r) turns (k + 1)) ≡ put (listed_parts c e k) w (s >>= λ x. read_many (starts heads (m ▸ f)) (read_by (rule_of marks) n (m ▸ f)) turns x.rest >>= one_more x)
    go (Ok x) i =
        i (record { parts = e x.value w.parts; uses = w.uses ++ x.uses; rest = x.rest })
        ∙ one_more_put c e k w x (read_many (starts heads (m ▸ f)) (read_by (rule_of marks) n (m ▸ f)) turns x.rest)
    go (Err y) i = refl

-- an item, and others behind a symbol, with what closes the list
pub items_says : {marks : Bool} {A : Type 0} {n : ℕ} {f : Phrase A} {e : A → Parts → Parts} (b : ℕ) (near : Bool) (c : Closing) (m : Mark) (r : ℕ) (d : List A → Parts → Parts) → r < b → ((l : List A) (q : Parts) → closed c (length l) (each e l q) ≡ d l q) → SaysBy marks n r (row_in_table marks r) f e → SaysBy marks n b (piece.List c m r ∷ []) (f & many near (m ▸ f)) (λ p. d (p.0 ∷ p.1))
items_says {marks = marks} {A = A} {n = n} {f = f} {e = e} b near c m r d h k s = same_says (λ p. d (p.0 ∷ p.1)) closes one where
  row_is : (w : Work) → row_in (rows_of_terms marks) n b r w ≡ put e w (read_by (rule_of marks) n f w.rest)
  row_is w = row_law (rows_of_terms marks) n b r w h ∙ s.law w

  closes : (p : A × List A) (q : Parts) → listed_parts c e 1 p.1 (e p.0 q) ≡ d (p.0 ∷ p.1) q
  closes p q =
      let i : length p.1 + 1 ≡ length (p.0 ∷ p.1) = omega arith in
      ap (λ j. closed c j (each e (p.0 ∷ p.1) q)) i ∙ k (p.0 ∷ p.1) q

  one : SaysBy marks n b (piece.List c m r ∷ []) (f & many near (m ▸ f)) (λ p q. listed_parts c e 1 p.1 (e p.0 q))
  one = record {
    law = λ w.
        then_nothing (and_then (row_in (rows_of_terms marks) n b r w) (λ v. more c m (row_in (rows_of_terms marks) n b r) (length v.rest) 1 v))
        ∙ (ap (λ x. and_then x (λ v. more c m (row_in (rows_of_terms marks) n b r) (length v.rest) 1 v)) (row_is w)
        ∙ put_both e (listed_parts c e 1) w (read_by (rule_of marks) n f w.rest) (λ v. more c m (row_in (rows_of_terms marks) n b r) (length v.rest) 1 v) (read_by (rule_of marks) n (many near (m ▸ f))) (λ v. more_says marks n b c m r f e row_is (length v.rest) 1 v));
  }

pub some_says : {marks : Bool} {A : Type 0} {n : ℕ} {f : Phrase A} {e : A → Parts → Parts} (b : ℕ) (c : Closing) (m : Mark) (r : ℕ) (d : List A → Parts → Parts) → r < b → ((l : List A) (q : Parts) → closed c (length l) (each e l q) ≡ d l q) → SaysBy marks n r (row_in_table marks r) f e → SaysBy marks n b (piece.List c m r ∷ []) (row m f) d
some_says b c m r d h k s = made_says (λ (a, l). a ∷ l) d (items_says b false c m r d h k s)

pub list_says : {marks : Bool} {A : Type 0} {n : ℕ} {f : Phrase A} {e : A → Parts → Parts} (b : ℕ) (c : Closing) (m : Mark) (r : ℕ) (t : List A → Tree) → r < b → ((l : List A) (q : Parts) → closed c (length l) (each e l q) ≡ grows (t l) q) → SaysBy marks n r (row_in_table marks r) f e → SaysBy marks n b (piece.List c m r ∷ []) (made t (row m f)) grows
list_says b c m r t h k s = made_says t grows (some_says b c m r (λ l. grows (t l)) h k s)

-- nothing, or others behind a symbol
pub many_says : {marks : Bool} {A : Type 0} {n : ℕ} {f : Phrase A} {e : A → Parts → Parts} (b : ℕ) (near : Bool) (c : Closing) (m : Mark) (r : ℕ) (d : List A → Parts → Parts) → r < b → ((l : List A) (q : Parts) → closed c (length l) (each e l q) ≡ d l q) → SaysBy marks n r (row_in_table marks r) f e → SaysBy marks n b (piece.Many c m r ∷ []) (many near (m ▸ f)) d
many_says {marks = marks} {A = A} {n = n} {f = f} {e = e} b near c m r d h k s = same_says d closes (record {
  law = λ w. then_nothing (more c m (row_in (rows_of_terms marks) n b r) (length w.rest) 0 w) ∙ more_says marks n b c m r f e (λ v. row_law (rows_of_terms marks) n b r v h ∙ s.law v) (length w.rest) 0 w;
}) where
  closes : (l : List A) (q : Parts) → listed_parts c e 0 l q ≡ d l q
  closes l q =
      let i : length l + 0 ≡ length l = omega arith in
      ap (λ j. closed c j (each e l q)) i ∙ k l q

-- lists of trees, of pairs of names, and of names

pub chain_closes : (l : List Tree) (q : Parts) → closed closing.Trees (length l) (each grows l q) ≡ grows (chain l) q
unfolding postorder
chain_closes [] q = refl
chain_closes (t ∷ l) q =
    ap (part (Over head.Cons)) (chain_closes l (grows t q))
    ∙ ap (λ x. let p : Parts = record { names = q.names; makes = x } in p) (append_assoc (q.makes ++ postorder t) (postorder (chain l)) (Over head.Cons ∷ []) ∙ append_assoc q.makes (postorder t) (postorder (chain l) ++ Over head.Cons ∷ []))

-- alternatives, of which there are some

abbrev pub alternatives_grow : List Tree → Parts → Parts
alternatives_grow [] q = q
alternatives_grow (t ∷ l) q = grows (some_of (t ∷ l)) q

some_close : (t : Tree) (l : List Tree) (q : Parts) → repeated (length l) (closer closing.Alternatives) (each grows l (grows t q)) ≡ grows (some_of (t ∷ l)) q
unfolding postorder
some_close t [] q = refl
some_close t (u ∷ l) q =
    ap (part (Over head.SomeOf)) (some_close u l (grows t q))
    ∙ ap (λ x. let p : Parts = record { names = q.names; makes = x } in p) (append_assoc (q.makes ++ postorder t) (postorder (some_of (u ∷ l))) (Over head.SomeOf ∷ []) ∙ append_assoc q.makes (postorder t) (postorder (some_of (u ∷ l)) ++ Over head.SomeOf ∷ []))

alternatives_close : (l : List Tree) (q : Parts) → closed closing.Alternatives (length l) (each grows l q) ≡ alternatives_grow l q
alternatives_close [] q = refl
alternatives_close (t ∷ l) q =
    let i : length (t ∷ l) - 1 ≡ length l = omega arith in
    ap (λ j. repeated j (closer closing.Alternatives) (each grows l (grows t q))) i ∙ some_close t l q

pub alternatives_says : {marks : Bool} {n : ℕ} {f : Phrase Tree} (b : ℕ) (m : Mark) (r : ℕ) → r < b → SaysBy marks n r (row_in_table marks r) f grows → SaysBy marks n b (piece.List closing.Alternatives m r ∷ []) (made some_of (row m f)) grows
alternatives_says b m r h s = made_says some_of grows (made_says (λ (a, l). a ∷ l) (λ l. grows (some_of l)) (items_says b false closing.Alternatives m r alternatives_grow h alternatives_close s))

-- two names wait, the first one below
abbrev pub both_wait : ℕ × ℕ → Parts → Parts
both_wait p q = waits p.1 (waits p.0 q)

abbrev pub item_waits : ℕ × ℕ → Parts → Parts
item_waits p q = part Nothing (both_wait p q)

abbrev pub name_waits : ℕ → Parts → Parts
name_waits x q = part Nothing (waits x q)

under_second : (m k : List Make) (h : Head) → ((m ++ Nothing ∷ []) ++ k) ++ Over h ∷ [] ≡ m ++ (Nothing ∷ (k ++ Over h ∷ []))
under_second m k h = append_assoc (m ++ Nothing ∷ []) k (Over h ∷ []) ∙ append_assoc m (Nothing ∷ []) (k ++ Over h ∷ [])

pub binders_close : (l : List (ℕ × ℕ)) (q : Parts) → closed closing.Binders (length l) (each item_waits l q) ≡ grows (binders l) q
unfolding postorder
binders_close [] q = refl
binders_close (b ∷ l) q =
    ap (paired pairing.Binder) (binders_close l (item_waits b q))
    ∙ ap (λ x. let p : Parts = record { names = q.names; makes = x } in p) (under_second q.makes (postorder (binders l)) (head.Binder b.0 b.1))

pub names_close : (l : List ℕ) (q : Parts) → closed closing.Names (length l) (each name_waits l q) ≡ grows (names l) q
unfolding postorder
names_close [] q = refl
names_close (x ∷ l) q =
    ap (named naming.Name) (names_close l (name_waits x q))
    ∙ ap (λ y. let p : Parts = record { names = q.names; makes = y } in p) (under_second q.makes (postorder (names l)) (head.Name x))

adds_more : (l k : List Make) (q : Parts) → adds l (adds k q) ≡ adds (k ++ l) q
adds_more l k q = ap (λ x. let p : Parts = record { names = q.names; makes = x } in p) (append_assoc q.makes k l)

-- tails: what may stand behind a tree, and goes around it

abbrev pub tail_parts : (Tree → Tree) → List Make
tail_parts h = drop 1 (postorder (h Empty))

abbrev pub joins : (Tree → Tree) → Parts → Parts
joins h = adds (tail_parts h)

abbrev pub maybe_joins : Option (Tree → Tree) → Parts → Parts
maybe_joins None q = q
maybe_joins (Some h) q = joins h q

abbrev pub IsTail : (Tree → Tree) → Type 0
IsTail h = (t : Tree) → postorder (h t) ≡ postorder t ++ tail_parts h

abbrev pub IsMaybeTail : Option (Tree → Tree) → Type 0
IsMaybeTail None = Unit {0}
IsMaybeTail (Some h) = IsTail h

pub record AllTailsBy (marks : Bool) (n : ℕ) (g : Phrase (Tree → Tree)) : Type 0 where
  pub law : (ts : List Sign) (x : Found Role (Tree → Tree)) → read_by (rule_of marks) n g ts ≡ Ok x → IsTail x.value

abbrev pub AllTails : ℕ → Phrase (Tree → Tree) → Type 0
AllTails n g = AllTailsBy false n g

abbrev value_or : {A : Type 0} → A → Read Role A → A
value_or a (Ok x) = x.value
value_or a (Err e) = a

from_ok : {A : Type 0} (x y : Found Role A) → (let r : Read Role A = Ok x in r) ≡ Ok y → x.value ≡ y.value
from_ok x y e = ap (value_or x.value) e

pub mapped_all : {A B : Type 0} (v : A → B) (r : Read Role A) (y : Found Role B) (P : B → Type 0) → ((x : Found Role A) → r ≡ Ok x → P (v x.value)) → (r >>= mapped v) ≡ Ok y → P y.value
mapped_all v (Ok x) y P h i = subst P (from_ok (record { value = v x.value; uses = x.uses; rest = x.rest }) y i) (h x refl)
mapped_all v (Err e) y P h i = absurd (cc)

pick_all : {A : Type 0} (b : Bool) (p q : Reader Role A) (ts : List Sign) (y : Found Role A) (P : A → Type 0) → (p ts ≡ Ok y → P y.value) → (q ts ≡ Ok y → P y.value) → pick b p q ts ≡ Ok y → P y.value
pick_all true p q ts y P h k i = h i
pick_all false p q ts y P h k i = k i

pub second_all : {A B : Type 0} (r : Read Role A) (q : Reader Role B) (y : Found Role (A × B)) (P : B → Type 0) → ((ts : List Sign) (z : Found Role B) → q ts ≡ Ok z → P z.value) → (r >>= λ x. q x.rest >>= joined x) ≡ Ok y → P y.value.1
second_all {A} {B} (Ok x) q y P h i = go (q x.rest) refl i where
  go : (s : Read Role B) → q x.rest ≡ s → (s >>= joined x) ≡ Ok y → P y.value.1
  go (Ok z) j k = subst P (ap (λ (c : A × B). c.1) (from_ok (record { value = (x.value, z.value); uses = x.uses ++ z.uses; rest = z.rest }) y k)) (h x.rest z j)
  go (Err e) j k = absurd (cc)
second_all (Err e) q y P h i = absurd (cc)

pub made_tails : {marks : Bool} {B : Type 0} {n : ℕ} {g : Phrase B} (v : B → Tree → Tree) → ((b : B) → IsTail (v b)) → AllTailsBy marks n (made v g)
made_tails {marks = marks} {n = n} {g = g} v h = record { law = λ ts x i. mapped_all v (read_by (rule_of marks) n g ts) x IsTail (λ y j. h y.value) i }

pub either_tails : {marks : Bool} {n : ℕ} {f g : Phrase (Tree → Tree)} → AllTailsBy marks n f → AllTailsBy marks n g → AllTailsBy marks n (either f g)
either_tails {marks = marks} {n = n} {f = f} {g = g} s t = record { law = λ ts x i. pick_all (next_is (starts heads f) ts) (read_by (rule_of marks) n f) (read_by (rule_of marks) n g) ts x IsTail (s.law ts x) (t.law ts x) i }

maybe_tails : {marks : Bool} {n : ℕ} {g : Phrase (Tree → Tree)} → AllTailsBy marks n g → (ts : List Sign) (x : Found Role (Option (Tree → Tree))) → read_by (rule_of marks) n (may false g) ts ≡ Ok x → IsMaybeTail x.value
maybe_tails {marks = marks} {n = n} {g = g} s ts x i =
    pick_all (next_is (starts heads g) ts) (λ us. read_by (rule_of marks) n g us >>= mapped Some) (nothing None) ts x IsMaybeTail
    (λ j. mapped_all Some (read_by (rule_of marks) n g ts) x IsMaybeTail (s.law ts) j)
    (λ j. subst IsMaybeTail (from_ok (record { value = None; uses = []; rest = ts }) x j) tt) i

after_made : (t : Tree) (o : Option (Tree → Tree)) (q : Parts) → IsMaybeTail o → maybe_joins o (grows t q) ≡ grows (after t o) q
after_made t None q h = refl
after_made t (Some g) q h = adds_more (tail_parts g) (postorder t) q ∙ ap (λ l. adds l q) (sym (h t))

pub after_says : {marks : Bool} {n b : ℕ} {f : Phrase Tree} {g : Phrase (Tree → Tree)} (ps qs : List Piece) → SaysBy marks n b ps f grows → SaysBy marks n b qs (may false g) maybe_joins → AllTailsBy marks n g → SaysBy marks n b (ps ++ qs) (made (λ (t, f). after t f) (f & may false g)) grows
after_says {marks = marks} {n = n} {b = b} {f = f} {g = g} ps qs s t a = made_says (λ (t, f). after t f) grows (record {
  law = λ w.
      (both_says ps qs s t).law w
      ∙ put_same (λ (c : Tree × Option (Tree → Tree)) q. maybe_joins c.1 (grows c.0 q)) (λ c. grows (after c.0 c.1)) w (read_by (rule_of marks) n (f & may false g) w.rest)
      (λ x i. after_made x.value.0 x.value.1 w.parts (second_all (read_by (rule_of marks) n f w.rest) (read_by (rule_of marks) n (may false g)) x IsMaybeTail (maybe_tails a) i));
})

-- a tail, or what another choice reads

sel : {A : Type 0} → Bool → A → A → A
sel true x y = x
sel false x y = y

pick_is : {A : Type 0} (b : Bool) (p q : Reader Role A) (ts : List Sign) → pick b p q ts ≡ sel b (p ts) (q ts)
unfolding sel
pick_is true p q ts = refl
pick_is false p q ts = refl

sel_or : {A : Type 0} (b c : Bool) (x y : Read Role A) (z : Read Role (Option A)) → sel (b || c) (sel b x y >>= mapped Some) z ≡ sel b (x >>= mapped Some) (sel c (y >>= mapped Some) z)
unfolding sel
sel_or true c x y z = refl
sel_or false true x y z = refl
sel_or false false x y z = refl

pub next_or : (p q : Kind → Bool) (ts : List Sign) → next_is (λ k. p k || q k) ts ≡ (next_is p ts || next_is q ts)
next_or p q [] = refl
next_or p q (t ∷ ts) = refl

either_may : (marks : Bool) {A : Type 0} (n : ℕ) (near : Bool) (f g : Phrase A) (ts : List Sign) → read_by (rule_of marks) n (may near (either f g)) ts ≡ pick (next_is (starts heads f) ts) (λ us. read_by (rule_of marks) n f us >>= mapped Some) (read_by (rule_of marks) n (may near g)) ts
either_may marks n near f g ts =
    let b = next_is (starts heads f) ts in
    let c = next_is (starts heads g) ts in
    let x = read_by (rule_of marks) n f ts in
    let y = read_by (rule_of marks) n g ts in
    pick_is (next_is (starts heads (either f g)) ts) (λ us. read_by (rule_of marks) n (either f g) us >>= mapped Some) (nothing None) ts
    ∙ (ap₂ (λ d r. sel d (r >>= mapped Some) (found None [] ts)) (next_or (starts heads f) (starts heads g) ts) (pick_is b (read_by (rule_of marks) n f) (read_by (rule_of marks) n g) ts)
    ∙ (sel_or b c x y (found None [] ts)
    ∙ (ap (λ r. sel b (x >>= mapped Some) r) (sym (pick_is c (λ us. read_by (rule_of marks) n g us >>= mapped Some) (nothing None) ts)) ∙ sym (pick_is b (λ us. read_by (rule_of marks) n f us >>= mapped Some) (read_by (rule_of marks) n (may near g)) ts))))

pub either_may_says : {marks : Bool} {A : Type 0} {n : ℕ} {f g : Phrase A} (b : ℕ) (a : Ahead) (r s : ℕ) (near : Bool) (e : Option A → Parts → Parts) → r < b → s < b → ((k : Kind) → begins a k ≡ starts heads f k) → SaysBy marks n r (row_in_table marks r) f (λ x. e (Some x)) → SaysBy marks n s (row_in_table marks s) (may near g) e → SaysBy marks n b (piece.Choice a r s ∷ []) (may near (either f g)) e
either_may_says {marks = marks} {n = n} {f = f} {g = g} b a r s near e h i k x y = record {
  law = λ w.
      then_nothing (chosen (next_is (begins a) w.rest) (row_in (rows_of_terms marks) n b r) (row_in (rows_of_terms marks) n b s) w)
      ∙ (chosen_put (next_is (begins a) w.rest) (next_is (starts heads f) w.rest) (row_in (rows_of_terms marks) n b r) (row_in (rows_of_terms marks) n b s) e w (λ us. read_by (rule_of marks) n f us >>= mapped Some) (read_by (rule_of marks) n (may near g))
      (next_same (begins a) (starts heads f) k w.rest)
      (row_law (rows_of_terms marks) n b r w h ∙ (x.law w ∙ put_mapped Some e w (read_by (rule_of marks) n f w.rest)))
      (row_law (rows_of_terms marks) n b s w i ∙ y.law w)
      ∙ ap (put e w) (sym (either_may marks n near f g w.rest)));
}
