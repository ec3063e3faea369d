-- The values of the constants, by name.
use Rattle.std.specs.Prelude.{List, [], ◌∷◌}
use Rattle.rl_tags.specs.Tagged.{Tagged, IdAt}

abbrev pub nil_id : Tagged
nil_id = IdAt 2

abbrev pub t_id : Tagged
t_id = IdAt 7

abbrev pub quote_id : Tagged
quote_id = IdAt 12

abbrev pub emsg_star_id : Tagged
emsg_star_id = IdAt 17

abbrev pub dollar_eof_id : Tagged
dollar_eof_id = IdAt 22

abbrev pub dollar_eol_id : Tagged
dollar_eol_id = IdAt 27

abbrev pub function_id : Tagged
function_id = IdAt 32

abbrev pub cond_id : Tagged
cond_id = IdAt 37

abbrev pub progn_id : Tagged
progn_id = IdAt 42

abbrev pub and_id : Tagged
and_id = IdAt 47

abbrev pub or_id : Tagged
or_id = IdAt 52

abbrev pub setq_id : Tagged
setq_id = IdAt 57

abbrev pub prog_id : Tagged
prog_id = IdAt 62

abbrev pub go_id : Tagged
go_id = IdAt 67

abbrev pub return_id : Tagged
return_id = IdAt 72

abbrev pub lambda_id : Tagged
lambda_id = IdAt 77

abbrev pub list_id : Tagged
list_id = IdAt 82

abbrev pub plus_id : Tagged
plus_id = IdAt 87

abbrev pub times_id : Tagged
times_id = IdAt 92

abbrev pub max_id : Tagged
max_id = IdAt 97

abbrev pub min_id : Tagged
min_id = IdAt 102

abbrev pub de_id : Tagged
de_id = IdAt 107

abbrev pub df_id : Tagged
df_id = IdAt 112

abbrev pub dm_id : Tagged
dm_id = IdAt 117

abbrev pub expr_id : Tagged
expr_id = IdAt 122

abbrev pub fexpr_id : Tagged
fexpr_id = IdAt 127

abbrev pub macro_id : Tagged
macro_id = IdAt 132

abbrev pub atom_id : Tagged
atom_id = IdAt 137

abbrev pub codep_id : Tagged
codep_id = IdAt 142

abbrev pub constantp_id : Tagged
constantp_id = IdAt 147

abbrev pub eq_id : Tagged
eq_id = IdAt 152

abbrev pub eqn_id : Tagged
eqn_id = IdAt 157

abbrev pub fixp_id : Tagged
fixp_id = IdAt 162

abbrev pub idp_id : Tagged
idp_id = IdAt 167

abbrev pub not_id : Tagged
not_id = IdAt 172

abbrev pub null_id : Tagged
null_id = IdAt 177

abbrev pub numberp_id : Tagged
numberp_id = IdAt 182

abbrev pub pairp_id : Tagged
pairp_id = IdAt 187

abbrev pub stringp_id : Tagged
stringp_id = IdAt 192

abbrev pub vectorp_id : Tagged
vectorp_id = IdAt 197

abbrev pub equal_id : Tagged
equal_id = IdAt 202

abbrev pub minusp_id : Tagged
minusp_id = IdAt 207

abbrev pub onep_id : Tagged
onep_id = IdAt 212

abbrev pub zerop_id : Tagged
zerop_id = IdAt 217

abbrev pub car_id : Tagged
car_id = IdAt 222

abbrev pub cdr_id : Tagged
cdr_id = IdAt 227

abbrev pub caar_id : Tagged
caar_id = IdAt 232

abbrev pub cadr_id : Tagged
cadr_id = IdAt 237

abbrev pub cdar_id : Tagged
cdar_id = IdAt 242

abbrev pub cddr_id : Tagged
cddr_id = IdAt 247

abbrev pub caaar_id : Tagged
caaar_id = IdAt 252

abbrev pub caadr_id : Tagged
caadr_id = IdAt 257

abbrev pub cadar_id : Tagged
cadar_id = IdAt 262

abbrev pub caddr_id : Tagged
caddr_id = IdAt 267

abbrev pub cdaar_id : Tagged
cdaar_id = IdAt 272

abbrev pub cdadr_id : Tagged
cdadr_id = IdAt 277

abbrev pub cddar_id : Tagged
cddar_id = IdAt 282

abbrev pub cdddr_id : Tagged
cdddr_id = IdAt 287

abbrev pub caaaar_id : Tagged
caaaar_id = IdAt 292

abbrev pub caaadr_id : Tagged
caaadr_id = IdAt 297

abbrev pub caadar_id : Tagged
caadar_id = IdAt 302

abbrev pub caaddr_id : Tagged
caaddr_id = IdAt 307

abbrev pub cadaar_id : Tagged
cadaar_id = IdAt 312

abbrev pub cadadr_id : Tagged
cadadr_id = IdAt 317

abbrev pub caddar_id : Tagged
caddar_id = IdAt 322

abbrev pub cadddr_id : Tagged
cadddr_id = IdAt 327

abbrev pub cdaaar_id : Tagged
cdaaar_id = IdAt 332

abbrev pub cdaadr_id : Tagged
cdaadr_id = IdAt 337

abbrev pub cdadar_id : Tagged
cdadar_id = IdAt 342

abbrev pub cdaddr_id : Tagged
cdaddr_id = IdAt 347

abbrev pub cddaar_id : Tagged
cddaar_id = IdAt 352

abbrev pub cddadr_id : Tagged
cddadr_id = IdAt 357

abbrev pub cdddar_id : Tagged
cdddar_id = IdAt 362

abbrev pub cddddr_id : Tagged
cddddr_id = IdAt 367

abbrev pub cons_id : Tagged
cons_id = IdAt 372

abbrev pub rplaca_id : Tagged
rplaca_id = IdAt 377

abbrev pub rplacd_id : Tagged
rplacd_id = IdAt 382

abbrev pub append_id : Tagged
append_id = IdAt 387

abbrev pub reverse_id : Tagged
reverse_id = IdAt 392

abbrev pub length_id : Tagged
length_id = IdAt 397

abbrev pub member_id : Tagged
member_id = IdAt 402

abbrev pub memq_id : Tagged
memq_id = IdAt 407

abbrev pub assoc_id : Tagged
assoc_id = IdAt 412

abbrev pub nconc_id : Tagged
nconc_id = IdAt 417

abbrev pub abs_id : Tagged
abs_id = IdAt 422

abbrev pub add1_id : Tagged
add1_id = IdAt 427

abbrev pub minus_id : Tagged
minus_id = IdAt 432

abbrev pub sub1_id : Tagged
sub1_id = IdAt 437

abbrev pub difference_id : Tagged
difference_id = IdAt 442

abbrev pub plus2_id : Tagged
plus2_id = IdAt 447

abbrev pub times2_id : Tagged
times2_id = IdAt 452

abbrev pub max2_id : Tagged
max2_id = IdAt 457

abbrev pub min2_id : Tagged
min2_id = IdAt 462

abbrev pub quotient_id : Tagged
quotient_id = IdAt 467

abbrev pub remainder_id : Tagged
remainder_id = IdAt 472

abbrev pub divide_id : Tagged
divide_id = IdAt 477

abbrev pub expt_id : Tagged
expt_id = IdAt 482

abbrev pub greaterp_id : Tagged
greaterp_id = IdAt 487

abbrev pub lessp_id : Tagged
lessp_id = IdAt 492

abbrev pub error_id : Tagged
error_id = IdAt 497

abbrev pub mkvect_id : Tagged
mkvect_id = IdAt 502

abbrev pub getv_id : Tagged
getv_id = IdAt 507

abbrev pub putv_id : Tagged
putv_id = IdAt 512

abbrev pub upbv_id : Tagged
upbv_id = IdAt 517

abbrev pub gensym_id : Tagged
gensym_id = IdAt 522

abbrev pub intern_id : Tagged
intern_id = IdAt 527

abbrev pub explode_id : Tagged
explode_id = IdAt 532

abbrev pub compress_id : Tagged
compress_id = IdAt 537

abbrev pub digit_id : Tagged
digit_id = IdAt 542

abbrev pub liter_id : Tagged
liter_id = IdAt 547

abbrev pub get_id : Tagged
get_id = IdAt 552

abbrev pub flagp_id : Tagged
flagp_id = IdAt 557

abbrev pub put_id : Tagged
put_id = IdAt 562

abbrev pub remprop_id : Tagged
remprop_id = IdAt 567

abbrev pub flag_id : Tagged
flag_id = IdAt 572

abbrev pub remflag_id : Tagged
remflag_id = IdAt 577

abbrev pub getd_id : Tagged
getd_id = IdAt 582

abbrev pub putd_id : Tagged
putd_id = IdAt 587

abbrev pub remd_id : Tagged
remd_id = IdAt 592

abbrev pub fluid_id : Tagged
fluid_id = IdAt 597

abbrev pub global_id : Tagged
global_id = IdAt 602

abbrev pub unfluid_id : Tagged
unfluid_id = IdAt 607

abbrev pub fluidp_id : Tagged
fluidp_id = IdAt 612

abbrev pub globalp_id : Tagged
globalp_id = IdAt 617

abbrev pub set_id : Tagged
set_id = IdAt 622

abbrev pub prin1_id : Tagged
prin1_id = IdAt 627

abbrev pub prin2_id : Tagged
prin2_id = IdAt 632

abbrev pub print_id : Tagged
print_id = IdAt 637

abbrev pub terpri_id : Tagged
terpri_id = IdAt 642

abbrev pub posn_id : Tagged
posn_id = IdAt 647

abbrev pub linelength_id : Tagged
linelength_id = IdAt 652

abbrev pub read_id : Tagged
read_id = IdAt 657

abbrev pub readch_id : Tagged
readch_id = IdAt 662

abbrev pub eval_id : Tagged
eval_id = IdAt 667

abbrev pub errorset_id : Tagged
errorset_id = IdAt 672

abbrev pub apply_id : Tagged
apply_id = IdAt 677

abbrev pub compile_id : Tagged
compile_id = IdAt 682

abbrev pub faslout_id : Tagged
faslout_id = IdAt 687

abbrev pub load_id : Tagged
load_id = IdAt 692

abbrev pub map_id : Tagged
map_id = IdAt 697

abbrev pub mapc_id : Tagged
mapc_id = IdAt 702

abbrev pub mapcar_id : Tagged
mapcar_id = IdAt 707

abbrev pub maplist_id : Tagged
maplist_id = IdAt 712

abbrev pub mapcan_id : Tagged
mapcan_id = IdAt 717

abbrev pub mapcon_id : Tagged
mapcon_id = IdAt 722

abbrev pub sassoc_id : Tagged
sassoc_id = IdAt 727

abbrev pub sublis_id : Tagged
sublis_id = IdAt 732

abbrev pub subst_id : Tagged
subst_id = IdAt 737

abbrev pub delete_id : Tagged
delete_id = IdAt 742

abbrev pub pair_id : Tagged
pair_id = IdAt 747

abbrev pub deflist_id : Tagged
deflist_id = IdAt 752

abbrev pub expand_id : Tagged
expand_id = IdAt 757

abbrev pub evlis_id : Tagged
evlis_id = IdAt 762

abbrev pub prog2_id : Tagged
prog2_id = IdAt 767

abbrev pub dollar_x_id : Tagged
dollar_x_id = IdAt 772

abbrev pub dollar_fn_id : Tagged
dollar_fn_id = IdAt 777

abbrev pub dollar_l_id : Tagged
dollar_l_id = IdAt 782

abbrev pub dollar_r_id : Tagged
dollar_r_id = IdAt 787

abbrev pub dollar_u_id : Tagged
dollar_u_id = IdAt 792

abbrev pub dollar_v_id : Tagged
dollar_v_id = IdAt 797

abbrev pub dollar_y_id : Tagged
dollar_y_id = IdAt 802

abbrev pub dollar_a_id : Tagged
dollar_a_id = IdAt 807

abbrev pub dollar_d_id : Tagged
dollar_d_id = IdAt 812

abbrev pub dollar_w_id : Tagged
dollar_w_id = IdAt 817

abbrev pub dollar_m_id : Tagged
dollar_m_id = IdAt 822

abbrev pub dollar_i_id : Tagged
dollar_i_id = IdAt 827

abbrev pub dollar_b_id : Tagged
dollar_b_id = IdAt 832

-- all of them, in the order of their making
abbrev pub opening_ids : List Tagged
opening_ids =
    nil_id ∷
    t_id ∷
    quote_id ∷
    emsg_star_id ∷
    dollar_eof_id ∷
    dollar_eol_id ∷
    function_id ∷
    cond_id ∷
    progn_id ∷
    and_id ∷
    or_id ∷
    setq_id ∷
    prog_id ∷
    go_id ∷
    return_id ∷
    lambda_id ∷
    list_id ∷
    plus_id ∷
    times_id ∷
    max_id ∷
    min_id ∷
    de_id ∷
    df_id ∷
    dm_id ∷
    expr_id ∷
    fexpr_id ∷
    macro_id ∷
    atom_id ∷
    codep_id ∷
    constantp_id ∷
    eq_id ∷
    eqn_id ∷
    fixp_id ∷
    idp_id ∷
    not_id ∷
    null_id ∷
    numberp_id ∷
    pairp_id ∷
    stringp_id ∷
    vectorp_id ∷
    equal_id ∷
    minusp_id ∷
    onep_id ∷
    zerop_id ∷
    car_id ∷
    cdr_id ∷
    caar_id ∷
    cadr_id ∷
    cdar_id ∷
    cddr_id ∷
    caaar_id ∷
    caadr_id ∷
    cadar_id ∷
    caddr_id ∷
    cdaar_id ∷
    cdadr_id ∷
    cddar_id ∷
    cdddr_id ∷
    caaaar_id ∷
    caaadr_id ∷
    caadar_id ∷
    caaddr_id ∷
    cadaar_id ∷
    cadadr_id ∷
    caddar_id ∷
    cadddr_id ∷
    cdaaar_id ∷
    cdaadr_id ∷
    cdadar_id ∷
    cdaddr_id ∷
    cddaar_id ∷
    cddadr_id ∷
    cdddar_id ∷
    cddddr_id ∷
    cons_id ∷
    rplaca_id ∷
    rplacd_id ∷
    append_id ∷
    reverse_id ∷
    length_id ∷
    member_id ∷
    memq_id ∷
    assoc_id ∷
    nconc_id ∷
    abs_id ∷
    add1_id ∷
    minus_id ∷
    sub1_id ∷
    difference_id ∷
    plus2_id ∷
    times2_id ∷
    max2_id ∷
    min2_id ∷
    quotient_id ∷
    remainder_id ∷
    divide_id ∷
    expt_id ∷
    greaterp_id ∷
    lessp_id ∷
    error_id ∷
    mkvect_id ∷
    getv_id ∷
    putv_id ∷
    upbv_id ∷
    gensym_id ∷
    intern_id ∷
    explode_id ∷
    compress_id ∷
    digit_id ∷
    liter_id ∷
    get_id ∷
    flagp_id ∷
    put_id ∷
    remprop_id ∷
    flag_id ∷
    remflag_id ∷
    getd_id ∷
    putd_id ∷
    remd_id ∷
    fluid_id ∷
    global_id ∷
    unfluid_id ∷
    fluidp_id ∷
    globalp_id ∷
    set_id ∷
    prin1_id ∷
    prin2_id ∷
    print_id ∷
    terpri_id ∷
    posn_id ∷
    linelength_id ∷
    read_id ∷
    readch_id ∷
    eval_id ∷
    errorset_id ∷
    apply_id ∷
    compile_id ∷
    faslout_id ∷
    load_id ∷
    map_id ∷
    mapc_id ∷
    mapcar_id ∷
    maplist_id ∷
    mapcan_id ∷
    mapcon_id ∷
    sassoc_id ∷
    sublis_id ∷
    subst_id ∷
    delete_id ∷
    pair_id ∷
    deflist_id ∷
    expand_id ∷
    evlis_id ∷
    prog2_id ∷
    dollar_x_id ∷
    dollar_fn_id ∷
    dollar_l_id ∷
    dollar_r_id ∷
    dollar_u_id ∷
    dollar_v_id ∷
    dollar_y_id ∷
    dollar_a_id ∷
    dollar_d_id ∷
    dollar_w_id ∷
    dollar_m_id ∷
    dollar_i_id ∷
    dollar_b_id ∷
    []
