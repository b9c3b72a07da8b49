-- Lines, and lists of names and of binders, with their signs.
use Rattle.std.proofs.Common.{◌≡◌, ℕ, zero, suc, ◌*◌, Bool, true, false, nat_lt, ◌&&◌, List, [], ◌∷◌, ◌++◌, length, replicate, refl, sym, ◌∙◌, subst, codes, append_assoc, if◌then◌else◌}
use Rattle.std.proofs.lemmas.Bool.{and_parts, both_ways}
use Rattle.cv_parse_notation.specs.declared.sign.Mark.TheVariants as mark
use Rattle.cv_parse_notation.specs.declared.sign.Sign.{Sign}
use Rattle.cv_print.specs.Games.{line}
use Rattle.cv_print.specs.Terms.{binder_text, entry_text, entries_text}
use Rattle.cv_print_bytes.specs.terminals.Signs.{one, binder_signs, entry_signs, entries_signs, unless_empty}
use Rattle.cv_syntax_trees.specs.Tree.{Tree, Empty, Node}
use Rattle.cv_syntax_trees.specs.declared.head.Head.{Head}
use Rattle.cv_syntax_trees.specs.declared.head.Head.TheVariants.{Binder, Name}
use Rattle.cv_syntax_trees.specs.Children.{is_empty}
use Rattle.cv_print_bytes.specs.Known.{AreNames, head_is_named, is_named}
use Rattle.cv_print_bytes.proofs.Fronts.{Front, Chain, nothing, none, first, ◌and◌, ◌last◌}
use Rattle.cv_print_bytes.proofs.Literals.{comma_space, bar_newline}
use Rattle.cv_print_bytes.proofs.Named.{parted, all_names}
use Rattle.cv_print_bytes.proofs.Shown.{Shows, shows_blank}
use Rattle.cv_print_bytes.proofs.Tokens.{name}

-- lines

indented : (names : List (List ℕ)) (n : ℕ) (text : List ℕ) (ss : List Sign) → Shows names text ss → Shows names (replicate n 32 ++ text) ss
indented names zero text ss w = w
indented names (suc n) text ss w = shows_blank names 32 (replicate n 32 ++ text) ss refl (indented names n text ss w)

lined : (names : List (List ℕ)) (n : ℕ) (text rest : List ℕ) (ss : List Sign) → Shows names (text ++ (10 ∷ rest)) ss → Shows names ((replicate n 32 ++ text ++ codes "\n") ++ rest) ss
lined names n text rest ss w =
    let same : (replicate n 32 ++ text ++ codes "\n") ++ rest ≡ replicate n 32 ++ (text ++ (10 ∷ rest)) = append_assoc (replicate n 32 ++ text) (codes "\n") rest ∙ append_assoc (replicate n 32) text (10 ∷ rest) in
    subst (λ z. Shows names z ss) (sym same) (indented names n (text ++ (10 ∷ rest)) ss w)

pub of_line : {names : List (List ℕ)} {text : List ℕ} {ss : List Sign} (level : ℕ) → Front names false true text ss → Front names false false (line level text) ss
of_line {names = names} {text = text} {ss = ss} level f = record {
  goes = λ rest more h w. (tt, lined names (2 * level) text rest (ss ++ more) (f.goes (10 ∷ rest) more refl (shows_blank names 10 rest more refl w)).1);
}

-- a line whose signs go on with others
pub of_open_line : {names : List (List ℕ)} {text : List ℕ} {F : List Sign → List Sign} (level : ℕ) → Chain names false true text F → Chain names false false (line level text) F
of_open_line {names = names} {text = text} {F = F} level f = record {
  goes = λ rest more x h w. (tt, lined names (2 * level) text rest (F x ++ more) (f.goes (10 ∷ rest) more x refl (shows_blank names 10 rest (x ++ more) refl w)).1);
}

pub of_bar : {names : List (List ℕ)} (level : ℕ) → Front names false false (line level (codes "|")) (one mark.Bar)
of_bar {names = names} level = record {
  goes = λ rest more h w. (tt, lined names (2 * level) (codes "|") rest (one mark.Bar ++ more) (bar_newline.goes rest more h w).1);
}

-- a text unless a tree is empty
pub if_any : {names : List (List ℕ)} {p : Bool} {text : List ℕ} {ss : List Sign} (t : Tree) → Front names p p text ss → Front names p p (if is_empty t then [] else text) (unless_empty t ss)
if_any Empty f = nothing
if_any (Node h a b) f = f

-- lists of names and of binders

module _ {names : List (List ℕ)} (are : AreNames names) where
  pub of_binder : {mark : List ℕ} {between : List Sign} → Front names true false mark between → (x T : ℕ) → (nat_lt x (length names) && nat_lt T (length names)) ≡ true → Front names false true (binder_text names mark x T) (binder_signs between x T)
  of_binder m x T k = let p = and_parts (nat_lt x (length names)) (nat_lt T (length names)) k in first (name are x p.0) and m last name are T p.1

  of_entry : {mark : List ℕ} {between : List Sign} → Front names true false mark between → (h : Head) → head_is_named (length names) h ≡ true → Front names false true (entry_text names mark h) (entry_signs between h)
  of_entry m (Name x) k = name are x k
  of_entry m (Binder x T) k = of_binder m x T k
  of_entry m h k = none

  pub of_entries : {mark : List ℕ} {between : List Sign} {q : Bool} {before : List ℕ} {s : List Sign} → Front names true false mark between → Front names q false before s → (t : Tree) → is_named (length names) t ≡ true → Front names q true (entries_text names mark before t) (entries_signs between s t)
  unfolding entries_text entries_signs
  of_entries m f Empty k = none
  of_entries m f (Node h a b) k = let p = parted (length names) h a b k in first f and of_entry m h p.here last of_entries m comma_space b p.right

  pub of_names : {q : Bool} {before : List ℕ} {s : List Sign} → Front names q false before s → (t : Tree) → all_names t ≡ true → is_named (length names) t ≡ true → Front names q true (entries_text names [] before t) (entries_signs [] s t)
  unfolding entries_text entries_signs all_names
  of_names f Empty e k = none
  of_names f (Node (Name x) a b) e k = let p = parted (length names) (Name x) a b k in first f and name are x p.here last of_names comma_space b e p.right
  of_names f (Node h a b) e k = absurd (both_ways _ refl e)
