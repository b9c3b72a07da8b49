-- What spells a phrase is put together of what spells its parts.
use Rattle.std.proofs.Common.{◌≡◌, ℕ, suc, ◌+◌, Bool, true, false, List, [], ◌∷◌, ◌++◌, length, Some, None, inl, inr, refl, ap, sym, subst, ◌∙◌, arith}
use Rattle.std.proofs.lemmas.List.{append_assoc, length-append}
use Rattle.cv_syntax_trees.specs.Tree.{Tree}
use Rattle.cv_parse_notation.specs.declared.script.ScriptWord.TheVariants.{Plain}
use Rattle.cv_parse_notation.specs.declared.sign.Mark.{Mark}
use Rattle.cv_parse_notation.specs.declared.sign.Mark.TheVariants as mark
use Rattle.cv_parse_notation.specs.declared.sign.Sign.{Sign}
use Rattle.cv_parse_notation.specs.declared.sign.Sign.TheVariants as token
use Rattle.cv_parse_notation.specs.Form.{sign, word, number, nought, find_word, note, both, may, many, either, made, level, deeper, ◌▸◌, ◌◂◌}
use Rattle.cv_parse_notation.specs.Spells.{Kind, AFind, AMark, AWord, IsSort, Use, starts, next_is}
use Rattle.cv_parse_notation.specs.Whole.{SpellsWith}
use Rattle.cv_parse_grammar.specs.declared.role.Role.{Role}
use Rattle.cv_parse_grammar.specs.Marks.{rule_of}
use Rattle.cv_parse_grammar.specs.Phrases.{Phrase, Sort, bracket, square}
use Rattle.cv_parse_grammar.specs.Rules.{heads}
use Rattle.cv_print_bytes.specs.terminals.Signs.{numbered}
use Rattle.cv_print_bytes.specs.terminals.Told.{Piece, Shown, Told, signs_in, uses_in, shown, tells}
use Rattle.cv_print_bytes.specs.terminals.Told as told
use Rattle.cv_print_bytes.proofs.terminals.Pieces.{finds_behind, numbered_append, numbered_length, signs_append, uses_append}

-- With n levels and one the pieces spell the phrase, in front of signs that don't begin so: by the rows of files, or by those
-- in which names may have marks.
pub record SpelledBy (marks : Bool) {A : Type 0} (n : ℕ) (f : Phrase A) (ps : List Piece) (a : A) (stop : Kind → Bool) : Type 0 where
  pub spells : (k : ℕ) (rest : List Sign) → next_is stop rest ≡ false → SpellsWith heads (rule_of marks) f n (numbered k (signs_in ps) ++ rest) a (uses_in ps (length rest)) rest

abbrev pub Spelled : {A : Type 0} → ℕ → Phrase A → List Piece → A → (Kind → Bool) → Type 0
Spelled n f ps a stop = SpelledBy false n f ps a stop

abbrev pub never : Kind → Bool
never k = false

-- what the pieces, and signs behind them that don't begin so, don't begin with
pub record Blocks (stop : Kind → Bool) (qs : List Piece) (last : Kind → Bool) : Type 0 where
  pub blocks : (k : ℕ) (rest : List Sign) → next_is last rest ≡ false → next_is stop (numbered k (signs_in qs) ++ rest) ≡ false

pub none : (l : List Sign) → next_is never l ≡ false
none [] = refl
none (s ∷ l) = refl

pub free : {qs : List Piece} {last : Kind → Bool} → Blocks never qs last
free {qs = qs} = record { blocks = λ k rest e. none (numbered k (signs_in qs) ++ rest) }

pub by_mark : {stop last : Kind → Bool} {m : Mark} {qs : List Piece} → stop (AMark m) ≡ false → Blocks stop (Shown (token.Mark m) ∷ qs) last
unfolding signs_in numbered
by_mark h = record { blocks = λ k rest e. h }

pub by_word : {stop last : Kind → Bool} {x : ℕ} {qs : List Piece} → stop (AWord Plain) ≡ false → Blocks stop (Shown (token.Word x Plain) ∷ qs) last
unfolding signs_in numbered
by_word h = record { blocks = λ k rest e. h }

pub by_find : {stop last : Kind → Bool} {i : ℕ} {qs : List Piece} → stop AFind ≡ false → Blocks stop (Shown (token.Find i) ∷ qs) last
unfolding signs_in numbered
by_find h = record { blocks = λ k rest e. h }

pub by_told : {stop last : Kind → Bool} {qs : List Piece} {r : Role} {x : ℕ} → Blocks stop qs last → Blocks stop (Told r x ∷ qs) last
unfolding signs_in
by_told b = record { blocks = b.blocks }

-- nothing stands between
pub by_rest : {stop : Kind → Bool} → Blocks stop [] stop
unfolding signs_in numbered
by_rest = record { blocks = λ k rest e. e }

abbrev one_use : {R : Type 0} → R → ℕ → ℕ → List (Use R)
one_use r x n = record { role = r; name = x; left = n } ∷ []

one_more : {R : Type 0} (r : R) (x n : ℕ) → one_use r x (1 + n) ≡ one_use r x (suc n)
one_more r x n = ap (one_use r x) (omega arith)

module _ {marks : Bool} {n : ℕ} {stop : Kind → Bool} where
  pub a_sign : {m : Mark} → SpelledBy marks n (sign m) (shown m) tt stop
  unfolding signs_in uses_in numbered
  a_sign = record { spells = λ k rest e. record { tokens = refl; uses = refl } }

  pub a_word : {r : Role} {x : ℕ} → SpelledBy marks n (word r) (told.word r (suc x)) (suc x) stop
  unfolding signs_in uses_in numbered
  a_word {r = r} {x = x} = record { spells = λ k rest e. record { script = Plain; tokens = refl; uses = one_more r (suc x) (length rest) } }

  pub a_number : {x : ℕ} → SpelledBy marks n number (Shown (token.Number x) ∷ []) x stop
  unfolding signs_in uses_in numbered
  a_number = record { spells = λ k rest e. record { tokens = refl; uses = refl } }

  pub a_nought : SpelledBy marks n nought (Shown (token.Number 0) ∷ []) tt stop
  unfolding signs_in uses_in numbered
  a_nought = record { spells = λ k rest e. record { tokens = refl; uses = refl } }

  pub leveled : {A : Type 0} {f : Phrase A} {ps : List Piece} {a : A} → SpelledBy marks n f ps a stop → SpelledBy marks n (level f) ps a stop
  leveled p = record { spells = λ k rest e. (refl, p.spells k rest e) }

  pub turned : {A B : Type 0} {v : A → B} {f : Phrase A} {ps : List Piece} {a : A} {b : B} → SpelledBy marks n f ps a stop → v a ≡ b → SpelledBy marks n (made v f) ps b stop
  turned {a = a} p i = record { spells = λ k rest e. (a, p.spells k rest e, i) }

  pub one_way : {A : Type 0} {f g : Phrase A} {ps : List Piece} {a : A} → SpelledBy marks n f ps a stop → SpelledBy marks n (either f g) ps a stop
  one_way p = record { spells = λ k rest e. inl (p.spells k rest e) }

  pub other_way : {A : Type 0} {f g : Phrase A} {ps : List Piece} {a : A} → Blocks (starts heads f) ps stop → SpelledBy marks n g ps a stop → SpelledBy marks n (either f g) ps a stop
  other_way b p = record { spells = λ k rest e. inr (b.blocks k rest e, p.spells k rest e) }

  pub is_there : {A : Type 0} {near : Bool} {f : Phrase A} {ps : List Piece} {a : A} → SpelledBy marks n f ps a stop → SpelledBy marks n (may near f) ps (Some a) stop
  is_there p = record { spells = λ k rest e. p.spells k rest e }

  pub is_absent : {A : Type 0} {f : Phrase A} → SpelledBy marks n (may false f) [] None stop
  unfolding signs_in uses_in numbered
  is_absent = record { spells = λ k rest e. (record { tokens = refl; uses = refl }, λ i. absurd (cc)) }

  pub pair : {A B : Type 0} {f : Phrase A} {g : Phrase B} {ps qs : List Piece} {a : A} {b : B} {first : Kind → Bool} → SpelledBy marks n f ps a first → Blocks first qs stop → SpelledBy marks n g qs b stop → SpelledBy marks n (both f g) (ps ++ qs) (a, b) stop
  pair {f = f} {g = g} {ps = ps} {qs = qs} {a = a} {b = b} p c q = record { spells = λ k rest e. go k rest e }
    where
      go : (k : ℕ) (rest : List Sign) → next_is stop rest ≡ false → SpellsWith heads (rule_of marks) (both f g) n (numbered k (signs_in (ps ++ qs)) ++ rest) (a, b) (uses_in (ps ++ qs) (length rest)) rest
      go k rest e =
          let j = finds_behind k (signs_in ps) in
          let mid = numbered j (signs_in qs) ++ rest in
          let t : numbered k (signs_in (ps ++ qs)) ++ rest ≡ numbered k (signs_in ps) ++ mid =
          ap (λ l. numbered k l ++ rest) (signs_append ps qs) ∙ (ap (λ l. l ++ rest) (numbered_append k (signs_in ps) (signs_in qs)) ∙ append_assoc (numbered k (signs_in ps)) (numbered j (signs_in qs)) rest) in
          let l : length (signs_in qs) + length rest ≡ length mid = sym (length-append (numbered j (signs_in qs)) rest ∙ ap (λ m. m + length rest) (numbered_length j (signs_in qs))) in
          let u : uses_in (ps ++ qs) (length rest) ≡ uses_in ps (length mid) ++ uses_in qs (length rest) =
          uses_append ps qs (length rest) ∙ ap (λ m. uses_in ps m ++ uses_in qs (length rest)) l in
          record { mid = mid; front = uses_in ps (length mid); back = uses_in qs (length rest); first = subst (λ z. SpellsWith heads (rule_of marks) f n z a (uses_in ps (length mid)) mid) (sym t) (p.spells k mid (c.blocks j rest e)); second = q.spells j rest e; uses = u }

module _ {marks : Bool} {n : ℕ} {stop : Kind → Bool} where
  pub behind : {A : Type 0} {m : Mark} {f : Phrase A} {ps : List Piece} {a : A} → SpelledBy marks n f ps a stop → SpelledBy marks n (m ▸ f) (shown m ++ ps) a stop
  behind p = turned (pair a_sign free p) refl

  pub before : {A : Type 0} {m : Mark} {f : Phrase A} {ps : List Piece} {a : A} {first : Kind → Bool} → SpelledBy marks n f ps a first → first (AMark m) ≡ false → SpelledBy marks n (f ◂ m) (ps ++ shown m) a stop
  before p h = turned (pair p (by_mark h) a_sign) refl

  pub bracketed : {A : Type 0} {f : Phrase A} {ps : List Piece} {a : A} {first : Kind → Bool} → SpelledBy marks n f ps a first → first (AMark mark.Close) ≡ false → SpelledBy marks n (bracket f) (shown mark.Open ++ (ps ++ shown mark.Close)) a stop
  bracketed p h = leveled (behind (before p h))

  pub squared : {A : Type 0} {f : Phrase A} {ps : List Piece} {a : A} {first : Kind → Bool} → SpelledBy marks n f ps a first → first (AMark mark.CloseSquare) ≡ false → SpelledBy marks n (square f) (shown mark.OpenSquare ++ (ps ++ shown mark.CloseSquare)) a stop
  squared p h = leveled (behind (before p h))

  -- a phrase before a word or symbol and another phrase
  pub joined : {A B : Type 0} {m : Mark} {f : Phrase A} {g : Phrase B} {ps qs : List Piece} {a : A} {b : B} {first : Kind → Bool} → SpelledBy marks n f ps a first → first (AMark m) ≡ false → SpelledBy marks n g qs b stop → SpelledBy marks n (both f (m ▸ g)) (ps ++ (shown m ++ qs)) (a, b) stop
  joined p h q = pair p (by_mark h) (behind q)

  -- something is told about names before a phrase
  pub noted : {B C : Type 0} {r : Role} {g : Phrase B} {v : ℕ × B → C} {qs : List Piece} {b : B} {c : C} → SpelledBy marks n g qs b stop → ((i : ℕ) → v (i, b) ≡ c) → SpelledBy marks n (made v (both (note r) g)) (tells r ++ qs) c stop
  unfolding signs_in uses_in
  noted {r = r} {g = g} {v = v} {qs = qs} {b = b} {c = c} q h = record { spells = λ k rest e. go k rest e }
    where
      go : (k : ℕ) (rest : List Sign) → next_is stop rest ≡ false → SpellsWith heads (rule_of marks) (made v (both (note r) g)) n (numbered k (signs_in qs) ++ rest) c (uses_in (tells r ++ qs) (length rest)) rest
      go k rest e =
          let mid = numbered k (signs_in qs) ++ rest in
          let l : length (signs_in qs) + length rest ≡ length mid = sym (length-append (numbered k (signs_in qs)) rest ∙ ap (λ m. m + length rest) (numbered_length k (signs_in qs))) in
          ((length mid, b), record { mid = mid; front = one_use r 0 (length mid); back = uses_in qs (length rest); first = (refl, record { tokens = refl; uses = refl }); second = q.spells k rest e; uses = ap (λ m. one_use r 0 m ++ uses_in qs (length rest)) l }, h (length mid))

  -- something is told about names
  pub noted_alone : {C : Type 0} {r : Role} {v : ℕ → C} {c : C} → ((i : ℕ) → v i ≡ c) → SpelledBy marks n (made v (note r)) (tells r) c stop
  unfolding signs_in uses_in numbered
  noted_alone {r = r} h = record { spells = λ k rest e. (length rest, (refl, record { tokens = refl; uses = ap (one_use r 0) (omega arith) }), h (length rest)) }

  -- the word `find` before a phrase, whatever its number
  pub sought : {B C : Type 0} {g : Phrase B} {v : ℕ × B → C} {qs : List Piece} {b : B} {c : C} → SpelledBy marks n g qs b stop → ((i : ℕ) → v (i, b) ≡ c) → SpelledBy marks n (made v (both find_word g)) (Shown (token.Find 0) ∷ qs) c stop
  unfolding signs_in uses_in numbered
  sought {qs = qs} {b = b} q h = record { spells = λ k rest e. ((suc k, b), record { mid = numbered (suc k) (signs_in qs) ++ rest; front = []; back = uses_in qs (length rest); first = record { tokens = refl; uses = refl }; second = q.spells (suc k) rest e; uses = refl }, h (suc k)) }

  -- one after another

  pub no_more : {A : Type 0} {f : Phrase A} → SpelledBy marks n (many false f) [] [] stop
  unfolding signs_in uses_in numbered
  no_more = record { spells = λ k rest e. (record { tokens = refl; uses = refl }, λ i. absurd (cc)) }

  pub one_more_of : {A : Type 0} {near : Bool} {f : Phrase A} {ps qs : List Piece} {a : A} {l : List A} {first : Kind → Bool} → SpelledBy marks n f ps a first → Blocks first qs stop → SpelledBy marks n (many near f) qs l stop → SpelledBy marks n (many near f) (ps ++ qs) (a ∷ l) stop
  one_more_of {near = near} {f = f} {ps = ps} {qs = qs} {a = a} {l = l} p c q = record { spells = λ k rest e. let d = (pair p c q).spells k rest e in record { mid = d.mid; front = d.front; back = d.back; first = d.first; second = d.second; uses = d.uses } }

  -- one level down, by the sort's row
  pub down_by : {s : Sort} {f : Phrase Tree} {ps : List Piece} {t : Tree} → rule_of marks s ≡ f → SpelledBy marks n f ps t stop → SpelledBy marks (suc n) (deeper s) ps t stop
  unfolding IsSort
  down_by {ps = ps} {t = t} i p = record { spells = λ k rest e. subst (λ g. SpellsWith heads (rule_of marks) g n (numbered k (signs_in ps) ++ rest) t (uses_in ps (length rest)) rest) (sym i) (p.spells k rest e) }

  pub down : {s : Sort} {ps : List Piece} {t : Tree} → SpelledBy marks n (rule_of marks s) ps t stop → SpelledBy marks (suc n) (deeper s) ps t stop
  unfolding IsSort
  down p = record { spells = λ k rest e. p.spells k rest e }

-- none goes on, in front of what doesn't begin so
pub no_more_near : {marks : Bool} {A : Type 0} {n : ℕ} {f : Phrase A} → SpelledBy marks n (many true f) [] [] (starts heads f)
unfolding signs_in uses_in numbered
no_more_near = record { spells = λ k rest e. (record { tokens = refl; uses = refl }, λ i. e) }

-- the same pieces, grouped in another way
pub regrouped : {marks : Bool} {A : Type 0} {n : ℕ} {f : Phrase A} {ps qs : List Piece} {a : A} {stop : Kind → Bool} → ps ≡ qs → SpelledBy marks n f ps a stop → SpelledBy marks n f qs a stop
regrouped {marks = marks} {n = n} {f = f} {a = a} {stop = stop} e p = subst (λ l. SpelledBy marks n f l a stop) e p
