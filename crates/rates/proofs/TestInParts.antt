-- The test, worked out at every rate from 8,000 to 192,000, in parts of 2 ^ k, since one declaration may take only so many steps. The rates whose last digit counts s steps are
-- two or three parts, of which the last ends where they end. Assumes nothing.
use lib.Dec.{T}
use Rattle.rates.proofs.FewerSteps.{quick_from}

-- part after part: where one does not hold, those behind it are not worked out
after : {A B : Type 0} → A → B → B
after a b = b

pub by_32_a : T (quick_from 11 32 8000)
unfolding quick_from
by_32_a = tt

pub by_32_b : T (quick_from 11 32 10016)
unfolding quick_from
by_32_b = after by_32_a tt

pub by_16_a : T (quick_from 12 16 12064)
unfolding quick_from
by_16_a = after by_32_b tt

pub by_16_b : T (quick_from 12 16 16160)
unfolding quick_from
by_16_b = after by_16_a tt

pub by_16_c : T (quick_from 12 16 20032)
unfolding quick_from
by_16_c = after by_16_b tt

pub by_8_a : T (quick_from 13 8 24128)
unfolding quick_from
by_8_a = after by_16_c tt

pub by_8_b : T (quick_from 13 8 32320)
unfolding quick_from
by_8_b = after by_8_a tt

pub by_8_c : T (quick_from 13 8 40063)
unfolding quick_from
by_8_c = after by_8_b tt

pub by_4_a : T (quick_from 14 4 48255)
unfolding quick_from
by_4_a = after by_8_c tt

pub by_4_b : T (quick_from 14 4 64639)
unfolding quick_from
by_4_b = after by_4_a tt

pub by_4_c : T (quick_from 14 4 80126)
unfolding quick_from
by_4_c = after by_4_b tt

pub by_2_a : T (quick_from 15 2 96510)
unfolding quick_from
by_2_a = after by_4_c tt

pub by_2_b : T (quick_from 15 2 129278)
unfolding quick_from
by_2_b = after by_2_a tt

pub by_2_c : T (quick_from 15 2 159233)
unfolding quick_from
by_2_c = after by_2_b tt
