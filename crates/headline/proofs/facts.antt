mod CodePages
mod DecodedFields
mod ListedThreads
mod MappedPages
mod NotedKeys
mod RootTables
mod RulesKept
mod ThreadObjects
mod WiderRanges
pub mod Laws
