-- The definitions at a few descriptions: each is computed. Assumes nothing.
use Rattle.std.proofs.Common.{◌≡◌, ◌*◌, [], ◌∷◌, ◌++◌, replicate, codes, Ok, Err, refl}
use Rattle.std.specs.Fmt.{digits}
use Rattle.refusals.specs.declared.reasons.Refusal.TheVariants.{DescriptionTooLong, NoWord, UnknownName, BadCount, FifthWord}
use Rattle.plans.specs.declared.stages.Stage.TheVariants.{Des, Ede2, Ede3, Idea, Xtea, Wxor, Wadd}
use Rattle.plans.specs.Plans.{plan_of}
use Rattle.plans.specs.Written.{described, spaced}

spaces_before : plan_of (codes " wxor des:  ") ≡ Err (BadCount 9)
spaces_before = refl

every_name : plan_of (codes "des ede2  ede3 idea") ≡ Ok (Des ∷ Ede2 ∷ Ede3 ∷ Idea 8 ∷ [])
every_name = refl

other_names : plan_of (codes "  xtea wxor wadd xtea:7 ") ≡ Ok (Xtea 32 ∷ Wxor ∷ Wadd ∷ Xtea 7 ∷ [])
other_names = refl

most_rounds : plan_of (codes "idea:8") ≡ Ok (Idea 8 ∷ [])
most_rounds = refl

a_round_more : plan_of (codes "idea:9") ≡ Err (BadCount 4)
a_round_more = refl

no_digit : plan_of (codes "idea:") ≡ Err (BadCount 4)
no_digit = refl

leading_zero : plan_of (codes "xtea:05") ≡ Err (BadCount 4)
leading_zero = refl

needless : plan_of (codes "des wadd:1") ≡ Err (BadCount 8)
needless = refl

first_colon : plan_of (codes "idea:8:8") ≡ Err (BadCount 4)
first_colon = refl

no_name : plan_of (codes "des :8") ≡ Err (UnknownName 4)
no_name = refl

a_tab : plan_of (codes "des" ++ 9 ∷ codes "des") ≡ Err (UnknownName 0)
a_tab = refl

left_to_right : plan_of (codes "foo des des des des") ≡ Err (UnknownName 0)
left_to_right = refl

count_first : plan_of (codes "idea:9 foo") ≡ Err (BadCount 4)
count_first = refl

fifth_first : plan_of (codes "des des des des  idea:9") ≡ Err (FifthWord 17)
fifth_first = refl

spaces : plan_of (codes "   ") ≡ Err (NoWord 3)
spaces = refl

nothing : plan_of [] ≡ Err (NoWord 0)
nothing = refl

longest : plan_of (codes "des" ++ replicate 61 32) ≡ Ok (Des ∷ [])
longest = refl

too_long : plan_of (codes "des" ++ replicate 62 32) ≡ Err DescriptionTooLong
too_long = refl

one_between : described (Ede3 ∷ Idea 5 ∷ Xtea 12 ∷ Wadd ∷ []) ≡ codes "ede3 idea:5 xtea:12 wadd"
unfolding digits
one_between = refl

more_spaces : spaced (λ k. 2 * k) 0 (Wxor ∷ Xtea 32 ∷ []) ≡ codes "wxor  xtea:32    "
unfolding digits
more_spaces = refl
