-- The parts behind each subcommand, and that each is read.
use Rattle.std.proofs.Common.{◌≡◌, ◌&&◌, Bool, true, false, cond, [], ◌∷◌, None, codes, ap, refl}
use Rattle.std.specs.Str.{bytes_eq}
use Rattle.clap.specs.Kinds.{Kinds, or_else}
use Rattle.clap.specs.Lexer.{strip_byte}
use Rattle.clap.specs.Simple.{Shape}
use Rattle.clap.specs.Walk.{Held, is_pending, pushed, settled}
use Rattle.clap.proofs.OnLiterals.{clap_on_literals}
use Rattle.cv_outside.specs.words.Forms.{Text}
use Rattle.cv_outside.proofs.words.Arranged.{Use}
use Rattle.cv_outside.proofs.words.Lines.{shape_named}
use Rattle.cv_outside.proofs.words.Walks.{IsFlag, IsOperand, IsOption, IsRead, at, first_use, flag_is_read, operand_is_read, option_is_read, pending_fault, rows_in, rule_in, use_of}

-- what `clap` asks of an operand and of a value: it is no option, and not `--`
pub record IsPlainWord (word : Text) : Type 0 where
  pub first : strip_byte 45 word ≡ None
  pub other : bytes_eq word (45 ∷ 45 ∷ []) ≡ false

-- an operand that takes one value settles what is pending

settles : (b : Bool) (h k : Held) → cond (b && false) h k ≡ k
settles true h k = refl
settles false h k = refl

no_fault : (b : Bool) (k : Kinds) → cond (b && false) [] k ≡ k
no_fault true k = refl
no_fault false k = refl

-- the parts behind `prove`

abbrev pub prove_shape : Shape
prove_shape = shape_named (codes "prove")

abbrev pub prove_file_use : Text → Use
prove_file_use word = use_of prove_shape (word ∷ []) (codes "file") word

abbrev pub moves_use : Text → Use
moves_use word = use_of prove_shape (codes "--moves" ∷ word ∷ []) (codes "moves") word

abbrev pub more_use : Use
more_use = use_of prove_shape (codes "--more" ∷ []) (codes "more") (codes "true")

abbrev pub prove_lib_use : Text → Use
prove_lib_use word = use_of prove_shape (codes "--lib" ∷ word ∷ []) (codes "lib") word

abbrev pub query_use : Text → Use
query_use word = use_of prove_shape (codes "--query" ∷ word ∷ []) (codes "query") word

prove_file_operand : (word : Text) → IsPlainWord word → IsOperand prove_shape (codes "file") word
unfolding clap_on_literals
prove_file_operand word k = record {
  step = λ h. rw k.first (rw k.other (rw k.first (ap (λ g. at (pushed (codes "file") word g) 2) (settles (is_pending (rule_in prove_shape (codes "file")) h.pending) h (settled prove_shape.rules h)))));
  turn = λ h. rw k.first (rw k.other (rw k.first (no_fault (is_pending (rule_in prove_shape (codes "file")) h.pending) (pending_fault prove_shape h))));
  row = λ h. refl;
  fits = λ h n. first_use false (rule_in prove_shape (codes "file")) (word ∷ []) (rows_in prove_shape h) n;
}

pub prove_file_read : (word : Text) → IsPlainWord word → IsRead prove_shape (codes "file") (prove_file_use word)
prove_file_read word k = operand_is_read prove_shape (codes "file") word (prove_file_operand word k)

moves_option : (word : Text) → IsPlainWord word → IsOption prove_shape (codes "--moves") (codes "moves") word
unfolding clap_on_literals
moves_option word k = record {
  step = λ h p. rw k.first (rw k.other (rw k.first refl));
  turn = λ h p. refl;
  next = λ h p. rw k.first (rw k.other (rw k.first refl));
  row = λ h. refl;
  fits = λ h n. first_use false (rule_in prove_shape (codes "moves")) (word ∷ []) (rows_in prove_shape h) n;
}

pub moves_read : (word : Text) → IsPlainWord word → IsRead prove_shape (codes "file") (moves_use word)
moves_read word k = option_is_read prove_shape (codes "file") (codes "--moves") (codes "moves") word refl (moves_option word k)

more_flag : IsFlag prove_shape (codes "--more") (codes "more") (codes "true")
unfolding clap_on_literals
more_flag = record {
  step = λ h p. refl;
  turn = λ h p n. ap (λ x. or_else (or_else (pending_fault prove_shape h) x) []) (first_use false (rule_in prove_shape (codes "more")) (codes "true" ∷ []) (rows_in prove_shape h) n);
}

pub more_read : IsRead prove_shape (codes "file") more_use
more_read = flag_is_read prove_shape (codes "file") (codes "--more") (codes "more") (codes "true") refl more_flag

prove_lib_option : (word : Text) → IsPlainWord word → IsOption prove_shape (codes "--lib") (codes "lib") word
unfolding clap_on_literals
prove_lib_option word k = record {
  step = λ h p. rw k.first (rw k.other (rw k.first refl));
  turn = λ h p. refl;
  next = λ h p. rw k.first (rw k.other (rw k.first refl));
  row = λ h. refl;
  fits = λ h n. first_use false (rule_in prove_shape (codes "lib")) (word ∷ []) (rows_in prove_shape h) n;
}

pub prove_lib_read : (word : Text) → IsPlainWord word → IsRead prove_shape (codes "file") (prove_lib_use word)
prove_lib_read word k = option_is_read prove_shape (codes "file") (codes "--lib") (codes "lib") word refl (prove_lib_option word k)

query_option : (word : Text) → IsPlainWord word → IsOption prove_shape (codes "--query") (codes "query") word
unfolding clap_on_literals
query_option word k = record {
  step = λ h p. rw k.first (rw k.other (rw k.first refl));
  turn = λ h p. refl;
  next = λ h p. rw k.first (rw k.other (rw k.first refl));
  row = λ h. refl;
  fits = λ h n. first_use false (rule_in prove_shape (codes "query")) (word ∷ []) (rows_in prove_shape h) n;
}

pub query_read : (word : Text) → IsPlainWord word → IsRead prove_shape (codes "file") (query_use word)
query_read word k = option_is_read prove_shape (codes "file") (codes "--query") (codes "query") word refl (query_option word k)

-- the parts behind `games`

abbrev pub games_shape : Shape
games_shape = shape_named (codes "games")

abbrev pub games_file_use : Text → Use
games_file_use word = use_of games_shape (word ∷ []) (codes "file") word

abbrev pub games_lib_use : Text → Use
games_lib_use word = use_of games_shape (codes "--lib" ∷ word ∷ []) (codes "lib") word

games_file_operand : (word : Text) → IsPlainWord word → IsOperand games_shape (codes "file") word
unfolding clap_on_literals
games_file_operand word k = record {
  step = λ h. rw k.first (rw k.other (rw k.first (ap (λ g. at (pushed (codes "file") word g) 2) (settles (is_pending (rule_in games_shape (codes "file")) h.pending) h (settled games_shape.rules h)))));
  turn = λ h. rw k.first (rw k.other (rw k.first (no_fault (is_pending (rule_in games_shape (codes "file")) h.pending) (pending_fault games_shape h))));
  row = λ h. refl;
  fits = λ h n. first_use false (rule_in games_shape (codes "file")) (word ∷ []) (rows_in games_shape h) n;
}

pub games_file_read : (word : Text) → IsPlainWord word → IsRead games_shape (codes "file") (games_file_use word)
games_file_read word k = operand_is_read games_shape (codes "file") word (games_file_operand word k)

games_lib_option : (word : Text) → IsPlainWord word → IsOption games_shape (codes "--lib") (codes "lib") word
unfolding clap_on_literals
games_lib_option word k = record {
  step = λ h p. rw k.first (rw k.other (rw k.first refl));
  turn = λ h p. refl;
  next = λ h p. rw k.first (rw k.other (rw k.first refl));
  row = λ h. refl;
  fits = λ h n. first_use false (rule_in games_shape (codes "lib")) (word ∷ []) (rows_in games_shape h) n;
}

pub games_lib_read : (word : Text) → IsPlainWord word → IsRead games_shape (codes "file") (games_lib_use word)
games_lib_read word k = option_is_read games_shape (codes "file") (codes "--lib") (codes "lib") word refl (games_lib_option word k)

-- the parts behind `sample`

abbrev pub sample_shape : Shape
sample_shape = shape_named (codes "sample")

abbrev pub number_use : Text → Use
number_use word = use_of sample_shape (word ∷ []) (codes "number") word

abbrev pub flag_use : Use
flag_use = use_of sample_shape (codes "--prove" ∷ []) (codes "prove") (codes "true")

number_operand : (word : Text) → IsPlainWord word → IsOperand sample_shape (codes "number") word
unfolding clap_on_literals
number_operand word k = record {
  step = λ h. rw k.first (rw k.other (rw k.first (ap (λ g. at (pushed (codes "number") word g) 2) (settles (is_pending (rule_in sample_shape (codes "number")) h.pending) h (settled sample_shape.rules h)))));
  turn = λ h. rw k.first (rw k.other (rw k.first (no_fault (is_pending (rule_in sample_shape (codes "number")) h.pending) (pending_fault sample_shape h))));
  row = λ h. refl;
  fits = λ h n. first_use false (rule_in sample_shape (codes "number")) (word ∷ []) (rows_in sample_shape h) n;
}

pub number_read : (word : Text) → IsPlainWord word → IsRead sample_shape (codes "number") (number_use word)
number_read word k = operand_is_read sample_shape (codes "number") word (number_operand word k)

flag_flag : IsFlag sample_shape (codes "--prove") (codes "prove") (codes "true")
unfolding clap_on_literals
flag_flag = record {
  step = λ h p. refl;
  turn = λ h p n. ap (λ x. or_else (or_else (pending_fault sample_shape h) x) []) (first_use false (rule_in sample_shape (codes "prove")) (codes "true" ∷ []) (rows_in sample_shape h) n);
}

pub flag_read : IsRead sample_shape (codes "number") flag_use
flag_read = flag_is_read sample_shape (codes "number") (codes "--prove") (codes "prove") (codes "true") refl flag_flag
